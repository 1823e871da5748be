-- What is known of a build of all that was gathered, by the settings that it read, is known of all that the iterator gives, by the builder's settings.
use Rattle.std.proofs.Common.{◌≡◌, Bool, List, Option, ◌∙◌, subst}
use Rattle.std.specs.Iterator.Runs.{WholeRun}
use Rattle.daachorse_model.specs.declared.MatchKind.{MatchKind}
use Rattle.daachorse_patterns.specs.declared.settings.Settings.{Settings}

-- the settings name the same kind, ask alike for a filter, and fold alike
pub record IsAsked {L A : Type 0} (read asked : Settings L A) : Type 0 where
  pub kind : read.match_kind ≡ asked.match_kind
  pub filter : read.use_prefilter ≡ asked.use_prefilter
  pub folds : read.ascii_case_insensitive ≡ asked.ascii_case_insensitive

module _ {S T L A : Type 0} {steps : S → Option T → S → Type 0} {gives : S → Type 0} (s : S) (given : gives s) {all : List T} (run : WholeRun steps s (λ p. all ≡ p.items)) (seen : List T) (is : seen ≡ all)
    {read : Settings L A} (asked : Settings L A) (same : IsAsked read asked) where
  pub of_all : (P : MatchKind → Bool → Bool → List T → Type 0) → P read.match_kind read.use_prefilter read.ascii_case_insensitive seen
      → (it : S) × gives it × WholeRun steps it (λ p. P asked.match_kind asked.use_prefilter asked.ascii_case_insensitive p.items)
  of_all P h =
      let by_kind = subst (λ k. P k read.use_prefilter read.ascii_case_insensitive seen) same.kind h in
      let by_filter = subst (λ u. P asked.match_kind u read.ascii_case_insensitive seen) same.filter by_kind in
      let by_folds = subst (λ b. P asked.match_kind asked.use_prefilter b seen) same.folds by_filter in
      (s, given, (run.0, run.1, run.2, subst (P asked.match_kind asked.use_prefilter asked.ascii_case_insensitive) (is ∙ run.3) by_folds))
