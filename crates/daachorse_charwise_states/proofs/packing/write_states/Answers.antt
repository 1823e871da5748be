-- What was written one after another holds the trie.
use Rattle.std.proofs.Common.{◌≡◌, ◌<◌, ◌++◌, ℕ, List, length, take, drop, refl, ◌∙◌, ap, subst, sym, arith}
use Rattle.std.specs.Prelude.{slice_index}
use Rattle.std.proofs.lemmas.List.{length-map}
use Rattle.std.proofs.lemmas.Result.{err_from_is_err_and}
use Rattle.daachorse_placement.specs.Placement.{AreIds, children_of, group_parent}
use Rattle.daachorse_build.specs.Tables.{edge_map, edges_of, fails_of, positions_of}
use Rattle.daachorse_patterns.specs.Settled.{HavePlaces}
use Rattle.daachorse_patterns.proofs.Places.{settled-places}
use Rattle.daachorse_charwise_states.specs.declared.state.State.{State}
use Rattle.daachorse_charwise_states.specs.Packing.{HoldElements}
use Rattle.daachorse_charwise_states.specs.Writing.{AreGroupsApart, HasWritten, HaveChecks}
use Rattle.daachorse_patterns.proofs.Written.{written_back}
use Rattle.daachorse_charwise_states.proofs.WrittenLaws.{fresh, settled-apart, settled-ids, settled-inside, settled-parents, written-held}
use Rattle.daachorse_charwise_states.proofs.packing.write_states.Goals as goal

pub returns-in_err-elements : goal.returns-in_err-elements
returns-in_err-elements g c =
    let p = err_from_is_err_and c.from_residual.result c.from_residual.ensures.1 in
    rw (p.1, p.2) (record { ok = tt; few = tt; err = refl })

pub place_states-requires : goal.place_states-requires
place_states-requires g c = record {
  bases = ap length c.bases.ensures ∙ (c.requires.settled.2.sizes.bases ∙ length-map c.args.states.now edge_map);
  links = c.requires.links;
  places =
      let l = c.args.helper.now in
      let q = c.requires.settled.2 in
      let count : length l.used ≡ length c.deref_mut.result.now = omega (arith, ap length c.deref_mut.ensures.value, c.in_ok-elements.ensures.len, c.num_elements.ensures, c.in_ok-elements.elements.ok.0) in
      let N : ℕ → Type 0 = λ n. HavePlaces l.idx n (length l.used) in
      let E : ℕ → Type 0 = λ n. HavePlaces l.idx (length c.args.states.now) n in
      let I : List ℕ → Type 0 = λ is. HavePlaces is (length c.args.states.now) (length c.deref_mut.result.now) in
      subst I (sym c.idx_map.ensures) (subst E count (subst N (length-map c.args.states.now edge_map) (settled-places q)));
}

pub set_checks-requires : goal.set_checks-requires
set_checks-requires g c = record {
  parents =
      let P : List ℕ → Type 0 = λ is. (k : ℕ) → k < length c.args.groups.now → group_parent c.args.groups.now k < length is in
      subst P (sym c.idx_map-2.ensures) (settled-parents c.requires.settled.2);
  ids =
      let P : List ℕ → Type 0 = λ is. (k : ℕ) → k < length c.args.groups.now → AreIds (length is) (children_of c.args.groups.now k) in
      subst P (sym c.idx_map-2.ensures) (settled-ids c.requires.settled.2);
  inside =
      let l = c.args.helper.now in
      let first : length c.deref_mut.result.now ≡ length l.used = omega (arith, ap length c.deref_mut.ensures.value, c.in_ok-elements.ensures.len, c.num_elements.ensures, c.in_ok-elements.elements.ok.0) in
      let mid : length c.place_states.new.elements ≡ length l.used = c.place_states.ensures.size ∙ first in
      let len : c.in_ok-elements.elements.len ≡ length c.place_states.new.elements = omega (arith, mid, c.in_ok-elements.ensures.len, c.num_elements.ensures) in
      let back = written_back c.place_states.new.elements c.in_ok-elements.elements.items c.in_ok-elements.elements.len len in
      let count : length l.used ≡ length c.deref_mut-2.result.now = sym (ap length (c.deref_mut-2.ensures.value ∙ back) ∙ mid) in
      let I : List ℕ → Type 0 = λ is. (t : ℕ) → t < length is → slice_index is t < length c.deref_mut-2.result.now in
      let E : ℕ → Type 0 = λ n. (t : ℕ) → t < length l.idx → slice_index l.idx t < n in
      subst I (sym c.idx_map-2.ensures) (subst E count (settled-inside c.requires.settled.2));
  apart =
      let P : List ℕ → Type 0 = λ is. AreGroupsApart c.args.groups.now is in
      subst P (sym c.idx_map-2.ensures) (settled-apart c.requires.settled.2);
}

pub returns : goal.returns
returns g c =
    let old = c.in_ok-elements.elements.items in let mid = c.place_states.new.elements in let new = c.set_checks.new.elements in
    let n = c.in_ok-elements.elements.len in
    record {
      ok =
          let states = c.args.states.now in let l = c.args.helper.now in let gs = c.args.groups.now in
          let q = c.requires.settled.2 in
          let fails = fails_of states in let positions = positions_of states in
          let vacants = fresh _ c.default.result old c.default.ensures (c.in_ok-elements.ensures.items_if_clones_equal (λ y same. same)) in
          let size : length old ≡ length l.used = omega (arith, c.in_ok-elements.ensures.len, c.num_elements.ensures, c.in_ok-elements.elements.ok.0) in
          let S : List ℕ → Type 0 = λ is. HasWritten (length states) is c.bases.result.now fails positions c.deref_mut.result.now mid in
          let B : List ℕ → Type 0 = λ bs. HasWritten (length states) l.idx bs fails positions c.deref_mut.result.now mid in
          let O : List State → Type 0 = λ es. HasWritten (length states) l.idx l.bases fails positions es mid in
          let N : ℕ → Type 0 = λ m. HasWritten m l.idx l.bases fails positions old mid in
          let placed = subst N (sym (length-map states edge_map)) (subst O c.deref_mut.ensures.value (subst B c.bases.ensures (subst S c.idx_map.ensures c.place_states.ensures))) in
          let len : n ≡ length mid = omega (arith, placed.size, c.in_ok-elements.elements.ok.0) in
          let back = written_back mid old n len in
          let I : List ℕ → Type 0 = λ is. HaveChecks gs (length gs) is c.deref_mut-2.result.now new in
          let M : List State → Type 0 = λ es. HaveChecks gs (length gs) l.idx es new in
          let checks = subst M (c.deref_mut-2.ensures.value ∙ back) (subst I c.idx_map-2.ensures c.set_checks.ensures) in
          let H : List State → Type 0 = λ es. HoldElements l (edges_of states) fails positions es in
          let len_new : n ≡ length new = omega (arith, len, checks.parts.size) in
          subst H (sym (written_back new (take n (mid ++ drop (length mid) old)) n len_new)) (written-held q fails positions old mid new size vacants placed checks);
      few =
          let len : n ≡ length mid = omega (arith, c.place_states.ensures.size, ap length c.deref_mut.ensures.value, c.in_ok-elements.elements.ok.0) in
          let len_new : n ≡ length new = omega (arith, len, ap length (written_back mid old n len), ap length c.deref_mut-2.ensures.value, c.set_checks.ensures.parts.size) in
          let small : length new < 4294967296 = omega (arith, len_new, c.in_ok-elements.ensures.len, c.num_elements.type_inv) in
          let P : List State → Type 0 = λ es. length es < 4294967296 in
          subst P (sym (written_back new (take n (mid ++ drop (length mid) old)) n len_new)) small;
      err = tt;
    }
