-- One position is written, and nothing else in the states changes.
use Rattle.std.proofs.Common.{◌≡◌, ◌<◌, ℕ, List, [], length, get_or, refl, sym, ap, ◌∙◌, subst, arith, get_or-set_same, get_or-set_other}
use Rattle.std.proofs.lemmas.List.{length-map, get_or-map, set-get_or}
use Rattle.std.proofs.lemmas.Result.{err_from_is_err_and}
use Rattle.daachorse_build.specs.declared.nfa_builder.NfaBuilderState.{NfaBuilderState}
use Rattle.daachorse_build.specs.Lists.{HasChain}
use Rattle.daachorse_build.specs.Tables.{edges_of, fails_of, own_at, own_of, positions_of}
use Rattle.daachorse_build.proofs.States.{position_set}
use Rattle.daachorse_build.specs.Few.{items_of}
use Rattle.daachorse_build.proofs.nfa_builder.outputs.put_list.Goals as goal

-- the own outputs of the state at an index
own_here : {L V A : Type 0} (states : List (NfaBuilderState L V A)) (i : ℕ) (x : NfaBuilderState L V A) (own : List (V × ℕ)) → i < length states → own ≡ items_of (get_or states i x).output → own_at (own_of states) i ≡ own
own_here states i x own l e = get_or-map (λ s. items_of s.output) states i x [] l ∙ sym e

pub push_chain-requires : goal.push_chain-requires
push_chain-requires g c = record {
  parents = c.requires.parents;
  parent = c.requires.parent;
}

pub returns-in_err-state-clause-kept : goal.returns-in_err-state-clause-kept
returns-in_err-state-clause-kept g c =
    let same = set-get_or c.args.states.now c.args.id c.index-states-id.result in
    record { edges = ap edges_of same; outputs = ap own_of same }

pub returns-in_err-state-clause-fails : goal.returns-in_err-state-clause-fails
returns-in_err-state-clause-fails g c = ap fails_of (set-get_or c.args.states.now c.args.id c.index-states-id.result)

pub returns-in_err-state-clause-err : goal.returns-in_err-state-clause-err
returns-in_err-state-clause-err g c =
    let p = err_from_is_err_and c.from_residual.result c.from_residual.ensures.1 in
    let own = own_here c.args.states.now c.args.id c.index-states-id.result _ c.requires.id refl in
    rw (p.1, p.2) (rw own c.in_err-state.ensures.err)

pub returns-clause-kept : goal.returns-clause-kept
returns-clause-kept g c =
    (position_set c.args.states.now c.args.id c.index-states-id.result _ c.in_ok-state.field-0 (omega arith) c.index-states-id.is (ap (λ (s : NfaBuilderState g.row.L.Denot g.row.V.Denot g.row.A.Denot). record s { output_pos = c.in_ok-state.field-0 }) (sym c.index-states-id.is))).0

pub returns-clause-fails : goal.returns-clause-fails
returns-clause-fails g c =
    (position_set c.args.states.now c.args.id c.index-states-id.result _ c.in_ok-state.field-0 (omega arith) c.index-states-id.is (ap (λ (s : NfaBuilderState g.row.L.Denot g.row.V.Denot g.row.A.Denot). record s { output_pos = c.in_ok-state.field-0 }) (sym c.index-states-id.is))).1

pub returns-clause-chain : goal.returns-clause-chain
returns-clause-chain g c =
    let states = c.args.states.now in
    let count : c.args.id < length (positions_of states) = omega (arith, c.requires.id, length-map states (λ s. s.output_pos)) in
    let set' = (position_set states c.args.id c.index-states-id.result _ c.in_ok-state.field-0 c.requires.id c.index-states-id.is (ap (λ (s : NfaBuilderState g.row.L.Denot g.row.V.Denot g.row.A.Denot). record s { output_pos = c.in_ok-state.field-0 }) (sym c.index-states-id.is))).2 in
    let here = ap (λ ps. get_or ps c.args.id 0) set' ∙ get_or-set_same (positions_of states) c.args.id c.in_ok-state.field-0 0 count in
    let own = own_here states c.args.id c.index-states-id.result _ c.requires.id refl in
    let P : ℕ → Type 0 = λ p. HasChain c.args.outputs.now.items c.push_chain.new.outputs.items (own_at (own_of states) c.args.id) c.args.parent p in
    let Q : List (g.row.V.Denot × ℕ) → Type 0 = λ os. HasChain c.args.outputs.now.items c.push_chain.new.outputs.items os c.args.parent c.in_ok-state.field-0 in
    subst P (sym here) (subst Q (sym own) c.in_ok-state.ensures.chain)

pub returns-clause-others : goal.returns-clause-others
returns-clause-others g c = λ t ne.
    let states = c.args.states.now in
    let set' = (position_set states c.args.id c.index-states-id.result _ c.in_ok-state.field-0 c.requires.id c.index-states-id.is (ap (λ (s : NfaBuilderState g.row.L.Denot g.row.V.Denot g.row.A.Denot). record s { output_pos = c.in_ok-state.field-0 }) (sym c.index-states-id.is))).2 in
    ap (λ ps. get_or ps t 0) set' ∙ get_or-set_other (positions_of states) c.args.id t c.in_ok-state.field-0 0 ne
