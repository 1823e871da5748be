-- The groups are placed, and the states written to their elements.
use Rattle.std.proofs.Common.{true, ◌≡◌, ◌≢◌, ◌<◌, ◌≤◌, ◌+◌, ◌*◌, ◌^◌, ℕ, List, length, refl, ◌∙◌, ap, subst, sym, arith}
use Rattle.std.specs.Prelude.{slice_index}
use Rattle.std.specs.Ordering.{nat_cmp}
use Rattle.std.proofs.lemmas.List.{length-map}
use Rattle.std.proofs.lemmas.Result.{IfOk-from_err, IfOk-weaker, IfErr-weaker, err_from_is_err_and}
use Rattle.daachorse_core.specs.declared.errors.DaachorseError.{DaachorseError}
use Rattle.daachorse_core.specs.declared.errors.Limit.TheVariants.{NumElements}
use Rattle.daachorse_core.specs.Refusals.{IsRefusal}
use Rattle.daachorse_core.proofs.Refusals.{IsRefusal-weaker}
use Rattle.daachorse_placement.specs.declared.build_helper.SiblingGroup.{SiblingGroup}
use Rattle.daachorse_placement.specs.Layout.{Layout}
use Rattle.daachorse_placement.specs.Placement.{AreGroups, HasSizes, IsPlaced}
use Rattle.daachorse_build.specs.Builders.{states_of}
use Rattle.daachorse_build.specs.declared.nfa_builder.NfaBuilderState.{NfaBuilderState}
use Rattle.daachorse_build.specs.Tables.{HoldTrie, edge_map, edges_of, fails_of, positions_of}
use Rattle.daachorse_bytewise_states.specs.Packing.{AreByteGroups, ElementsHoldTrie}
use Rattle.daachorse_patterns.specs.Settled.{HavePlaces, AreSettled, HasManyGroups}
use Rattle.daachorse_patterns.proofs.Groups.{settled-of}
use Rattle.daachorse_patterns.proofs.Places.{settled-places}
use Rattle.daachorse_bytewise_states.specs.declared.state.State.{State}
use Rattle.daachorse_bytewise_states.proofs.packing.pack.Goals as goal

pub byte_groups-requires : goal.byte_groups-requires
byte_groups-requires g c = record { trie = c.requires.trie; profile = c.requires.profile }

pub returns-in_err-groups : goal.returns-in_err-groups
returns-in_err-groups g c =
    let p = err_from_is_err_and c.from_residual.result c.from_residual.ensures.1 in
    let P : DaachorseError → Type 0 = λ x. IsRefusal ⊥ NumElements (HasManyGroups {A = g.row.A.Denot} (λ b. b) 256 (states_of c.args.nfa.now)) x in
    rw (p.1, p.2) (record { ok = tt; few = tt; err = subst P (sym c.in_err-groups.ensures.err) tt })

pub new-requires-clause-power : goal.new-requires-clause-power
new-requires-clause-power g c = (8, refl)

pub new-requires-clause-states : goal.new-requires-clause-states
new-requires-clause-states g c =
    let two : 1 < length (edges_of (states_of c.args.nfa.now)) = c.requires.trie.trie.two in
    omega (arith, two, length-map (states_of c.args.nfa.now) edge_map, ap length c.states.ensures)

pub new-requires-clause-groups : goal.new-requires-clause-groups
new-requires-clause-groups g c =
    let N : ℕ → Type 0 = λ n. AreGroups c.deref.result.now n 256 in
    let G : List (SiblingGroup g.row.A.Denot) → Type 0 = λ gs. AreGroups gs (length (edges_of (states_of c.args.nfa.now))) 256 in
    subst N (length-map (states_of c.args.nfa.now) edge_map ∙ sym (ap length c.states.ensures)) (subst G (sym c.deref.ensures.value) c.in_ok-groups.ensures.ok.groups)

-- what the placement promises of the groups, by the states that it was given
settled : {V A : Type 0} (states given : List (NfaBuilderState ℕ V A)) (gs lent : List (SiblingGroup A)) (l : Layout) → given ≡ states → lent ≡ gs
    → AreByteGroups gs (edges_of states) → IsPlaced lent (length lent) true l → HasSizes l 256 (length given) → AreSettled (λ b. b) 256 true gs l (edges_of states)
settled states given gs lent l same loan groups placed sizes =
    let S : ℕ → Type 0 = λ n. HasSizes l 256 n in
    settled-of (λ b. b) 256 true states gs lent l (8, refl) groups loan placed (subst S (ap length same) sizes)

pub returns-in_err-helper : goal.returns-in_err-helper
returns-in_err-helper g c = record {
  ok = IfOk-from_err c.from_residual-in_err-helper.result _ c.from_residual-in_err-helper.ensures.0;
  few = IfOk-from_err c.from_residual-in_err-helper.result _ c.from_residual-in_err-helper.ensures.0;
  err =
      let p = err_from_is_err_and c.from_residual-in_err-helper.result c.from_residual-in_err-helper.ensures.1 in
      let many : 2 ^ 32 ≤ (length c.deref.result.now + 1) * 256 → HasManyGroups (λ b. b) 256 (states_of c.args.nfa.now) = λ passed. (c.in_ok-groups.groups.items, c.in_ok-groups.ensures.ok, (omega (arith, passed, ap length c.deref.ensures.value))) in
      rw (p.1, p.2) (IsRefusal-weaker ⊥ ⊥ NumElements (2 ^ 32 ≤ (length c.deref.result.now + 1) * 256) (HasManyGroups (λ b. b) 256 (states_of c.args.nfa.now)) (λ x. x) many c.in_err-helper.field-0.0 c.in_err-helper.ensures.err);
}

pub write_states-requires : goal.write_states-requires
write_states-requires g c = record {
  trie =
      let P : List (NfaBuilderState ℕ g.row.V.Denot g.row.A.Denot) → Type 0 = λ ss. HoldTrie nat_cmp ss in
      subst P (sym c.states-2.ensures) c.requires.trie;
  sizes =
      let P : ℕ → Type 0 = λ n. HasSizes c.in_ok-helper.helper 256 n in
      subst P (ap length (c.states.ensures ∙ sym c.states-2.ensures)) c.in_ok-helper.ensures.sizes;
  places =
      let P : ℕ → Type 0 = λ n. HavePlaces c.in_ok-helper.helper.idx n (length c.in_ok-helper.helper.used) in
      subst P (length-map (states_of c.args.nfa.now) edge_map ∙ sym (ap length c.states-2.ensures)) (settled-places (settled (states_of c.args.nfa.now) c.states.result.now c.in_ok-groups.groups.items c.deref.result.now c.in_ok-helper.helper c.states.ensures c.deref.ensures.value c.in_ok-groups.ensures.ok c.in_ok-helper.ensures.placed c.in_ok-helper.ensures.sizes));
  links =
      let P : List (NfaBuilderState ℕ g.row.V.Denot g.row.A.Denot) → Type 0 = λ ss. (t : ℕ) → t < length ss → t ≢ 1 → slice_index (fails_of ss) t < length ss in
      subst P (sym c.states-2.ensures) c.requires.links;
  outputs =
      let P : List (NfaBuilderState ℕ g.row.V.Denot g.row.A.Denot) → Type 0 = λ ss. (t : ℕ) → t < length ss → t ≢ 1 → slice_index (positions_of ss) t < 2 ^ 24 in
      subst P (sym c.states-2.ensures) c.requires.outputs;
}

pub returns : goal.returns
returns g c = record {
  ok =
      let P : List (NfaBuilderState ℕ g.row.V.Denot g.row.A.Denot) → List (State ℕ) → Type 0 = λ ss es. ElementsHoldTrie c.in_ok-helper.helper (edges_of ss) (fails_of ss) (positions_of ss) es in
      IfOk-weaker c.write_states.result _ _
      (λ elements held. record { groups = c.in_ok-groups.groups.items; layout = c.in_ok-helper.helper; packed = record { settled = settled (states_of c.args.nfa.now) c.states.result.now c.in_ok-groups.groups.items c.deref.result.now c.in_ok-helper.helper c.states.ensures c.deref.ensures.value c.in_ok-groups.ensures.ok c.in_ok-helper.ensures.placed c.in_ok-helper.ensures.sizes; full = c.in_ok-helper.ensures.full; held = (let Q : List (NfaBuilderState ℕ g.row.V.Denot g.row.A.Denot) → Type 0 = λ ss. P ss elements.items in subst Q c.states-2.ensures held) } })
      c.write_states.ensures.ok;
  err =
      IfErr-weaker c.write_states.result _ _
      (λ e out. let P : DaachorseError → Type 0 = λ x. IsRefusal ⊥ NumElements (HasManyGroups (λ b. b) 256 (states_of c.args.nfa.now)) x in subst P (sym out) tt)
      c.write_states.ensures.err;
  few = c.write_states.ensures.few;
}
