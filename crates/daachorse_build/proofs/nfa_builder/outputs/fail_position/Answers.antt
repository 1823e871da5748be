-- The link and the position that are read are those of the states at their indexes.
use Rattle.std.proofs.Common.{◌≡◌, ◌<◌, ℕ, List, length, get_or, sym, ◌∙◌, subst, inl, inr, refl, arith}
use Rattle.std.proofs.lemmas.List.{get_or-map}
use Rattle.daachorse_build.specs.declared.nfa_builder.NfaBuilderState.{NfaBuilderState}
use Rattle.daachorse_build.specs.Lists.{IsParent}
use Rattle.daachorse_build.specs.Tables.{fails_of, positions_of}
use Rattle.daachorse_build.proofs.nfa_builder.outputs.fail_position.Goals as goal

-- a state's link by its index
link_here : {L V A : Type 0} (states : List (NfaBuilderState L V A)) (i : ℕ) (x : NfaBuilderState L V A) → i < length states → get_or (fails_of states) i 0 ≡ (get_or states i x).fail
link_here states i x l = get_or-map (λ s. s.fail) states i x 0 l

pub bounds-states-fail : goal.bounds-states-fail
bounds-states-fail g c =
    subst (λ (f : ℕ). f < length c.args.states.now) (link_here c.args.states.now c.args.id c.index-states-id.result c.requires.id) c.requires.fail

pub returns-then-fail-eq-DEAD_STATE_ID : goal.returns-then-fail-eq-DEAD_STATE_ID
returns-then-fail-eq-DEAD_STATE_ID g c =
    inl (link_here c.args.states.now c.args.id c.index-states-id.result c.requires.id ∙ c.if-fail-eq-DEAD_STATE_ID.true, refl)

pub returns : goal.returns
returns g c =
    let states = c.args.states.now in
    let fail : ℕ = (get_or states c.args.id c.index-states-id.result).fail in
    let here : get_or (fails_of states) c.args.id 0 ≡ fail = link_here states c.args.id c.index-states-id.result c.requires.id in
    let inside : fail < length states = subst (λ (f : ℕ). f < length states) here c.requires.fail in
    let position = get_or-map (λ s. s.output_pos) states fail c.index-states-fail.result 0 inside in
    subst (λ (f : ℕ). IsParent (positions_of states) f (get_or states fail c.index-states-fail.result).output_pos) (sym here) (inr (c.if-fail-eq-DEAD_STATE_ID.false, sym position))

pub offset_bounds-states-fail : goal.offset_bounds-states-fail
offset_bounds-states-fail g c = omega (arith, bounds-states-fail g c)
