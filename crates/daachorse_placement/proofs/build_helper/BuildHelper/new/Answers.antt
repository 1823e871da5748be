-- One block and the two lists as they are filled: no group is placed yet.
use Rattle.std.proofs.Common.{◌≡◌, ◌*◌, ℕ, List, ap, sym, ◌∙◌, subst, arith, replicate, rules, set}
use Rattle.std.proofs.lemmas.Grind.{common_steps}
use Rattle.daachorse_placement.specs.FreeLists.{layout_of}
use Rattle.daachorse_placement.specs.Placement.{IsPlaced}
use Rattle.daachorse_placement.proofs.FlagCounts.{none-vacant}
use Rattle.daachorse_placement.proofs.PlaceStart.{placed_start, full_start}
use Rattle.daachorse_placement.proofs.build_helper.BuildHelper.new.Goals as goal

pub place_all-requires-clause-whole : goal.place_all-requires-clause-whole
place_all-requires-clause-whole g c = c.in_ok-elements.ensures.whole

pub place_all-requires-clause-placed : goal.place_all-requires-clause-placed
place_all-requires-clause-placed g c =
    let e = c.in_ok-elements.elements in
    let gs = c.args.groups.now in
    let t = c.args.track_bases in
    let n = c.args.num_nfa_states in
    let one : c.in_ok-idx_map.idx_map.items ≡ replicate n 1 = search rules in
    let zero : c.in_ok-bases.bases.items ≡ replicate n 0 = search rules in
    let start = placed_start gs t e n c.args.block_len (omega arith) c.in_ok-elements.ensures.fresh in
    let x : set (replicate n 1) 0 0 ≡ c.deref_mut.result.now = sym (c.deref_mut.ensures.value ∙ ap (λ (xs : List ℕ). set xs 0 0) one) in
    let y : replicate n 0 ≡ c.deref_mut-2.result.now = sym (c.deref_mut-2.ensures.value ∙ zero) in
    subst (λ (xs : List ℕ). IsPlaced gs 0 t (layout_of e c.deref_mut.result.now xs)) y
    (subst (λ (xs : List ℕ). IsPlaced gs 0 t (layout_of e xs (replicate n 0))) x start)

pub place_all-requires-clause-full : goal.place_all-requires-clause-full
place_all-requires-clause-full g c = full_start c.in_ok-elements.elements c.args.block_len c.in_ok-elements.ensures.fresh

-- a block with as many elements as bases taken has no vacant element, if all are taken
pub returns-clause-full : goal.returns-clause-full
returns-clause-full g c = λ q all.
    let e = c.place_all.new.elements in
    none-vacant e.used_base.items e.used_index.items (q * e.block_len) e.block_len (c.in_ok-place_all.ensures.full q) all

pub returns-clause-placed : goal.returns-clause-placed
returns-clause-placed g c = grind (arith, common_steps)

pub returns-clause-sizes : goal.returns-clause-sizes
returns-clause-sizes g c = grind (arith, common_steps)
