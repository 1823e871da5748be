-- The groups are placed, and the states written to their elements.
use Rattle.std.proofs.Common.{false, ◌≢◌, ◌<◌, ◌≤◌, ◌+◌, ◌*◌, ◌^◌, ℕ, List, length, ◌∙◌, ap, subst, sym, arith}
use Rattle.std.specs.Prelude.{slice_index}
use Rattle.std.proofs.lemmas.List.{length-map}
use Rattle.std.proofs.lemmas.Result.{IfOk-from_err, IfOk-weaker, IfErr-weaker, err_from_is_err_and}
use Rattle.daachorse_core.specs.declared.errors.DaachorseError.{DaachorseError}
use Rattle.daachorse_core.specs.declared.errors.Limit.TheVariants.{NumElements}
use Rattle.daachorse_core.specs.Refusals.{IsRefusal}
use Rattle.daachorse_core.proofs.Refusals.{IsRefusal-weaker, at_error}
use Rattle.daachorse_placement.specs.declared.build_helper.SiblingGroup.{SiblingGroup}
use Rattle.daachorse_placement.specs.Placement.{AreGroups, HasSizes}
use Rattle.daachorse_build.specs.Builders.{states_of}
use Rattle.daachorse_build.specs.declared.nfa_builder.NfaBuilderState.{NfaBuilderState}
use Rattle.daachorse_build.specs.Tables.{edge_map, edges_of, fails_of, positions_of}
use Rattle.daachorse_patterns.specs.Settled.{AreSettled, HasManyGroups}
use Rattle.daachorse_patterns.proofs.Groups.{settled-of}
use Rattle.daachorse_charwise_states.specs.Packing.{HoldElements, code_in}
use Rattle.daachorse_charwise_states.proofs.packing.pack.Goals as goal

pub coded_groups-requires : goal.coded_groups-requires
coded_groups-requires g c = record { trie = c.requires.trie; profile = c.requires.profile; coding = c.requires.coding; coded = c.requires.coded }

pub returns-in_err-groups : goal.returns-in_err-groups
returns-in_err-groups g c =
    let p = err_from_is_err_and c.from_residual.result c.from_residual.ensures.1 in
    let P : DaachorseError → Type 0 = λ x. IsRefusal ⊥ NumElements (HasManyGroups {A = g.row.A.Denot} (code_in c.args.mapper.now) c.args.block_len (states_of c.args.nfa.now)) x in
    rw (p.1, p.2) (record { ok = tt; few = tt; err = subst P (sym c.in_err-groups.ensures.err) tt })

pub new-requires : goal.new-requires
new-requires g c = record {
  power = c.requires.power;
  two = c.requires.block.0;
  states =
      let two : 1 < length (edges_of (states_of c.args.nfa.now)) = c.requires.trie.trie.two in
      omega (arith, two, length-map (states_of c.args.nfa.now) edge_map, ap length c.states.ensures);
  groups =
      let states = states_of c.args.nfa.now in
      let G : List (SiblingGroup g.row.A.Denot) → Type 0 = λ gs. AreGroups gs (length c.states.result.now) c.args.block_len in
      let N : ℕ → Type 0 = λ n. AreGroups c.in_ok-groups.groups.items n c.args.block_len in
      subst G (sym c.deref.ensures.value) (subst N (length-map states edge_map ∙ sym (ap length c.states.ensures)) (c.in_ok-groups.ensures.ok c.args.block_len c.requires.block.0 c.requires.block.1).groups);
}

pub returns-in_err-helper : goal.returns-in_err-helper
returns-in_err-helper g c = record {
  ok = IfOk-from_err c.from_residual-in_err-helper.result _ c.from_residual-in_err-helper.ensures.0;
  few = IfOk-from_err c.from_residual-in_err-helper.result _ c.from_residual-in_err-helper.ensures.0;
  err =
      let of_trie = c.in_ok-groups.ensures.ok c.args.block_len c.requires.block.0 c.requires.block.1 in
      let many : 2 ^ 32 ≤ (length c.deref.result.now + 1) * c.args.block_len → HasManyGroups (code_in c.args.mapper.now) c.args.block_len (states_of c.args.nfa.now) = λ passed. (c.in_ok-groups.groups.items, of_trie, (let P : List (SiblingGroup g.row.A.Denot) → Type 0 = λ gs. 2 ^ 32 ≤ (length gs + 1) * c.args.block_len in subst P c.deref.ensures.value passed)) in
      at_error c.from_residual-in_err-helper.result _ _ c.from_residual-in_err-helper.ensures.1 (IsRefusal-weaker ⊥ ⊥ NumElements (2 ^ 32 ≤ (length c.deref.result.now + 1) * c.args.block_len) (HasManyGroups (code_in c.args.mapper.now) c.args.block_len (states_of c.args.nfa.now)) (λ x. x) many c.in_err-helper.field-0.0 c.in_err-helper.ensures.err);
}

pub write_states-requires : goal.write_states-requires
write_states-requires g c = record {
  settled =
      let code : ℕ → ℕ = code_in c.args.mapper.now in
      let states = states_of c.args.nfa.now in
      let gs = c.in_ok-groups.groups.items in
      let l = c.in_ok-helper.helper in
      let S : ℕ → Type 0 = λ n. HasSizes l c.args.block_len n in
      let G : List (SiblingGroup g.row.A.Denot) → Type 0 = λ x. AreSettled code c.args.block_len false x l (edges_of states) in
      let T : List (NfaBuilderState ℕ g.row.V.Denot g.row.A.Denot) → Type 0 = λ ss. AreSettled code c.args.block_len false c.deref-2.result.now l (edges_of ss) in
      let sizes = subst S (ap length c.states.ensures) c.in_ok-helper.ensures.sizes in
      let settled = settled-of code c.args.block_len false states gs c.deref.result.now l c.requires.power (c.in_ok-groups.ensures.ok c.args.block_len c.requires.block.0 c.requires.block.1) c.deref.ensures.value c.in_ok-helper.ensures.placed sizes in
      (code, c.args.block_len, subst T (sym c.states-2.ensures) (subst G (sym c.deref-2.ensures.value) settled));
  links =
      let P : List (NfaBuilderState ℕ g.row.V.Denot g.row.A.Denot) → Type 0 = λ ss. (t : ℕ) → t < length ss → t ≢ 1 → slice_index (fails_of ss) t < length ss in
      subst P (sym c.states-2.ensures) c.requires.links;
}

pub returns : goal.returns
returns g c = record {
  ok =
      let code : ℕ → ℕ = code_in c.args.mapper.now in
      let states = states_of c.args.nfa.now in
      let gs = c.in_ok-groups.groups.items in
      let l = c.in_ok-helper.helper in
      let S : ℕ → Type 0 = λ n. HasSizes l c.args.block_len n in
      let sizes = subst S (ap length c.states.ensures) c.in_ok-helper.ensures.sizes in
      IfOk-weaker c.write_states.result _ _
      (λ elements held. record {
        groups = gs;
        layout = l;
        settled = settled-of code c.args.block_len false states gs c.deref.result.now l c.requires.power (c.in_ok-groups.ensures.ok c.args.block_len c.requires.block.0 c.requires.block.1) c.deref.ensures.value c.in_ok-helper.ensures.placed sizes;
        held = (let Q : List (NfaBuilderState ℕ g.row.V.Denot g.row.A.Denot) → Type 0 = λ ss. HoldElements l (edges_of ss) (fails_of ss) (positions_of ss) elements.items in subst Q c.states-2.ensures held);
      })
      c.write_states.ensures.ok;
  err =
      IfErr-weaker c.write_states.result _ _
      (λ e out. let P : DaachorseError → Type 0 = λ x. IsRefusal ⊥ NumElements (HasManyGroups (code_in c.args.mapper.now) c.args.block_len (states_of c.args.nfa.now)) x in subst P (sym out) tt)
      c.write_states.ensures.err;
  few = c.write_states.ensures.few;
}
