-- What holds of each registered text holds of each key.
use Rattle.std.proofs.Common.{◌≢◌, ℕ, List, [], ◌∷◌, refl, subst}
use Rattle.std.specs.List.{AllByRecursion, list_any}
use Rattle.std.proofs.lemmas.Bool.{cond_both}
use Rattle.daachorse_model.specs.declared.MatchKind.{MatchKind}
use Rattle.daachorse_model.specs.declared.MatchKind.TheVariants.{Standard, LeftmostLongest, LeftmostFirst}
use Rattle.daachorse_model.specs.Dictionary.{dictionary, is_proper_prefix, values_of, without_extensions}
use Rattle.daachorse_model.specs.Prefixes.{IsKey}
use Rattle.daachorse_model.specs.Units.{same_text}
use Rattle.daachorse_build.proofs.Registrations.{text_same}

module _ {V : Type 0} (P : List ℕ → Type 0) where
  abbrev Texts : List (List ℕ × V) → Type 0
  Texts rs = AllByRecursion (λ r. P r.0) rs

  of_values : (rs : List (List ℕ × V)) → Texts rs → (w : List ℕ) → IsKey (values_of rs) w → P w
  of_values [] all w = λ key. absurd (key refl)
  of_values (r ∷ rs) all w =
      cond_both (same_text r.0 w) _ _ (λ vs. vs ≢ [] → P w) (λ same key. subst P (text_same r.0 w same) all.0) (λ other key. of_values rs all.1 w key)

  -- what is left out leaves it
  of_rest : (before : List (List ℕ)) (rs : List (List ℕ × V)) → Texts rs → Texts (without_extensions before rs)
  of_rest before [] all = tt
  of_rest before (r ∷ rs) all =
      let rest = of_rest (r.0 ∷ before) rs all.1 in
      cond_both (list_any (λ p. is_proper_prefix p r.0) before) _ _ Texts (λ out. rest) (λ kept. (all.0, rest))

  pub of_key : (kind : MatchKind) (rs : List (List ℕ × V)) → Texts rs → (w : List ℕ) → IsKey (dictionary kind rs) w → P w
  of_key Standard rs all = of_values rs all
  of_key LeftmostLongest rs all = of_values rs all
  of_key LeftmostFirst rs all = of_values (without_extensions [] rs) (of_rest [] rs all)
