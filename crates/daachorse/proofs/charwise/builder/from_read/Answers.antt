-- The codes are those of all patterns, so each character of a key has one; a refusal of the elements comes last. Patterns that stand as they are read have folded keys where they are folded, and the filter passes at each key.
use Rattle.std.specs.Prelude.{encode_utf8_all}
use Rattle.std.proofs.Common.{◌≡◌, ◌∙◌, ℕ, List, map, ap, sym, subst, None}
use Rattle.daachorse_core.proofs.Refusals.{at_error}
use Rattle.daachorse_model.specs.Dictionary.{Dictionary, dictionary}
use Rattle.daachorse_model.specs.Units.{char_width}
use Rattle.daachorse_prefilter.proofs.KeyLaws.{passes_along}
use Rattle.daachorse_patterns.proofs.LinksBack.{links_back}
use Rattle.daachorse_patterns.proofs.TextLaws.{keys-as_read}
use Rattle.daachorse_charwise_states.specs.Codings.{Coding, IsCodingOf}
use Rattle.daachorse_charwise_states.specs.Parts.{Parts, content}
use Rattle.daachorse.specs.charwise.Building.{AreCodesOf, HoldsPatterns, registrations_of_strings}
use Rattle.daachorse.proofs.BuildLaws.{codes_of, coded_keys, elements_refused}
use Rattle.daachorse.proofs.charwise.builder.from_read.Goals as goal

pub profile_of-requires : goal.profile_of-requires
profile_of-requires g c =
    links_back char_width None c.args.settings.now.match_kind c.in_ok-nfa.nfa (dictionary c.args.settings.now.match_kind (registrations_of_strings c.args.patterns.now)) c.in_ok-nfa.ensures.ok.built

pub build-requires-clause-built : goal.build-requires-clause-built
build-requires-clause-built g c =
    let K : Dictionary g.row.V.Denot = dictionary c.args.settings.now.match_kind (registrations_of_strings c.args.patterns.now) in
    let P : List ℕ → Type 0 = λ freqs. IsCodingOf freqs c.in_ok-mapper.mapper in
    let codes = subst P c.deref.ensures.value c.in_ok-mapper.ensures.ok in
    (K, c.in_ok-nfa.ensures.ok.built, coded_keys c.args.patterns.now c.in_ok-freqs.freqs.items c.in_ok-mapper.mapper c.in_ok-freqs.ensures.ok codes c.in_ok-freqs.ensures.texts c.args.settings.now.match_kind)

pub returns-in_err-states-clause-err : goal.returns-in_err-states-clause-err
returns-in_err-states-clause-err g c =
    let rs : List (List ℕ × g.row.V.Denot) = registrations_of_strings c.args.patterns.now in
    let K : Dictionary g.row.V.Denot = dictionary c.args.settings.now.match_kind rs in
    let P : List ℕ → Type 0 = λ freqs. IsCodingOf freqs c.in_ok-mapper.mapper in
    let codes = codes_of c.args.patterns.now c.in_ok-freqs.freqs.items c.in_ok-mapper.mapper c.in_ok-freqs.ensures.ok (subst P c.deref.ensures.value c.in_ok-mapper.ensures.ok) in
    at_error c.from_residual-in_err-states.result _ _ c.from_residual-in_err-states.ensures.1 (elements_refused c.args.settings.now.match_kind rs c.in_ok-mapper.mapper c.in_ok-nfa.ensures.ok.fit c.in_ok-nfa.ensures.ok.outputs codes c.in_err-states.field-0.0 _ (λ many. many K c.in_ok-nfa.ensures.ok.built) c.in_err-states.ensures.err)

pub of_states-requires : goal.of_states-requires
of_states-requires g c = record {
  folded = λ on k key.
      let kind = c.args.settings.now.match_kind in
      let rs : List (List ℕ × g.row.V.Denot) = registrations_of_strings c.args.patterns.now in
      keys-as_read c.args.settings.now.ascii_case_insensitive kind rs c.requires on k (λ none. key (c.in_ok-states.ensures.ok (dictionary kind rs) c.in_ok-nfa.ensures.ok.built k ∙ none));
  filter =
      let K : Dictionary g.row.V.Denot = dictionary c.args.settings.now.match_kind (registrations_of_strings c.args.patterns.now) in
      passes_along encode_utf8_all K (content c.in_ok-states.states) (c.in_ok-states.ensures.ok K c.in_ok-nfa.ensures.ok.built) c.in_ok-filter.filter (c.in_ok-filter.ensures.passes c.args.settings.now.match_kind);
}

pub returns-clause-filter : goal.returns-clause-filter
returns-clause-filter g c = c.of_states.ensures.filter ∙ c.in_ok-filter.ensures.ok

pub returns-clause-ok : goal.returns-clause-ok
returns-clause-ok g c =
    let kind = c.args.settings.now.match_kind in
    let rs : List (List ℕ × g.row.V.Denot) = registrations_of_strings c.args.patterns.now in
    let K : Dictionary g.row.V.Denot = dictionary kind rs in
    let P : List ℕ → Type 0 = λ freqs. IsCodingOf freqs c.in_ok-mapper.mapper in
    let codes = codes_of c.args.patterns.now c.in_ok-freqs.freqs.items c.in_ok-mapper.mapper c.in_ok-freqs.ensures.ok (subst P c.deref.ensures.value c.in_ok-mapper.ensures.ok) in
    let C : Coding → Type 0 = λ coding. AreCodesOf (map (λ r. r.0) rs) coding in
    let Q : Parts g.row.V.Denot → Type 0 = λ p. ((w : List ℕ) → content p w ≡ K w) × C p.coding in
    let held = subst Q (sym c.of_states.ensures.states) (c.in_ok-states.ensures.ok K c.in_ok-nfa.ensures.ok.built, subst C (sym c.in_ok-states.ensures.mapper) codes) in
    let H : List (List ℕ × g.row.V.Denot) → Type 0 = λ l. HoldsPatterns kind l c.of_states.result in
    record {
      holds = subst H (sym c.requires) (record { patterns = held.0; codes = held.1 });
      kind = ap (λ p. p.kind) c.of_states.ensures.states ∙ c.in_ok-states.ensures.kind;
      folds = c.of_states.ensures.folds;
      depths = c.of_states.ensures.depths;
    }
