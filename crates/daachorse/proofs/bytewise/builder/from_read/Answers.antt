-- The states are built of the trie of the patterns; the limit on the elements is tested last. Patterns that stand as they are read have folded keys where they are folded, and the filter passes at each key.
use Rattle.std.proofs.Common.{◌≡◌, ◌∙◌, ℕ, List, ap, sym, subst, Some}
use Rattle.std.specs.Borrow.{Bor}
use Rattle.std.proofs.lemmas.Result.{err_from_is_err_and}
use Rattle.daachorse_core.proofs.Refusals.{at_error}
use Rattle.daachorse_model.specs.Dictionary.{dictionary, registrations_of}
use Rattle.daachorse_model.specs.Units.{byte_width}
use Rattle.daachorse_bytewise_states.specs.Parts.{Parts, content}
use Rattle.daachorse_prefilter.proofs.KeyLaws.{passes_along}
use Rattle.daachorse_patterns.proofs.FilterLaws.{texts-first}
use Rattle.daachorse_patterns.proofs.LinksBack.{links_back}
use Rattle.daachorse_patterns.proofs.RefusalLaws.{elements_refused, refused_before}
use Rattle.daachorse_patterns.proofs.TextLaws.{keys-as_read}
use Rattle.daachorse.specs.bytewise.Building.{HoldsPatterns, byte_limits, kept_filter}
use Rattle.daachorse.proofs.bytewise.builder.from_read.Goals as goal

pub returns-in_err-nfa-clause-err : goal.returns-in_err-nfa-clause-err
returns-in_err-nfa-clause-err g c = at_error c.from_residual.result _ _ c.from_residual.ensures.1 (refused_before byte_width byte_limits c.args.settings.now.match_kind (registrations_of c.args.patterns.now) c.in_err-nfa.field-0.0 c.in_err-nfa.ensures.err)

pub profile_of-requires : goal.profile_of-requires
profile_of-requires g c =
    links_back byte_width (Some 16777215) c.args.settings.now.match_kind c.in_ok-nfa.nfa (dictionary c.args.settings.now.match_kind (registrations_of c.args.patterns.now)) c.in_ok-nfa.ensures.ok.built

pub build-requires-clause-built : goal.build-requires-clause-built
build-requires-clause-built g c = (dictionary c.args.settings.now.match_kind (registrations_of c.args.patterns.now), c.in_ok-nfa.ensures.ok.built)

pub returns-in_err-states-clause-err : goal.returns-in_err-states-clause-err
returns-in_err-states-clause-err g c =
    let p = err_from_is_err_and c.from_residual-in_err-states.result c.from_residual-in_err-states.ensures.1 in
    let rs = registrations_of c.args.patterns.now in
    rw (p.1, p.2) (elements_refused byte_width byte_limits c.args.settings.now.match_kind rs c.in_ok-nfa.ensures.ok.fit c.in_ok-nfa.ensures.ok.few c.in_err-states.field-0.0 _ (λ passed. passed (dictionary c.args.settings.now.match_kind rs) c.in_ok-nfa.ensures.ok.built) c.in_err-states.ensures.err)

pub of_states-requires : goal.of_states-requires
of_states-requires g c = record {
  folded = λ on k key.
      let kind = c.args.settings.now.match_kind in
      let rs = registrations_of c.args.patterns.now in
      keys-as_read c.args.settings.now.ascii_case_insensitive kind rs c.requires on k (λ none. key (c.in_ok-states.ensures.ok (dictionary kind rs) c.in_ok-nfa.ensures.ok.built k ∙ none));
  filter =
      let K = dictionary c.args.settings.now.match_kind (registrations_of c.args.patterns.now) in
      passes_along (λ w. w) K (content c.in_ok-states.states) (c.in_ok-states.ensures.ok K c.in_ok-nfa.ensures.ok.built) c.in_ok-filter.filter (c.in_ok-filter.ensures.passes c.args.settings.now.match_kind);
}

pub returns-clause-filter : goal.returns-clause-filter
returns-clause-filter g c =
    let units : Bor (List ℕ) → List ℕ = λ p. p.now in
    c.of_states.ensures.filter ∙ (c.in_ok-filter.ensures.ok ∙ ap (kept_filter c.args.settings.now.use_prefilter) (texts-first units c.args.patterns.now))

pub returns-clause-ok : goal.returns-clause-ok
returns-clause-ok g c =
    let kind = c.args.settings.now.match_kind in
    let rs = registrations_of c.args.patterns.now in
    let K = dictionary kind rs in
    let P : Parts g.row.V.Denot → Type 0 = λ p. (w : List ℕ) → content p w ≡ K w in
    let H : List (List ℕ × g.row.V.Denot) → Type 0 = λ l. HoldsPatterns kind l c.of_states.result in
    record {
      holds = subst H (sym c.requires) (subst P (sym c.of_states.ensures.states) (c.in_ok-states.ensures.ok K c.in_ok-nfa.ensures.ok.built));
      kind = ap (λ p. p.kind) c.of_states.ensures.states ∙ c.in_ok-states.ensures.kind;
      folds = c.of_states.ensures.folds;
      depths = c.of_states.ensures.depths;
    }
