-- Each state is written where no other stands.
use Rattle.std.proofs.Common.{◌≡◌, ◌<◌, ℕ, length, ◌∙◌, ap, subst, sym, arith}
use Rattle.std.specs.Prelude.{slice_index}
use Rattle.daachorse_patterns.proofs.Written.{link_at, placed_dead, placed_more, position_at}
use Rattle.daachorse_build.specs.Tables.{fails_of, positions_of}
use Rattle.daachorse_charwise_states.specs.Writing.{HasWritten}
use Rattle.daachorse_charwise_states.proofs.packing.place_states.Goals as goal

pub loop-id-preserved-then-id : goal.loop-id-preserved-then-id
loop-id-preserved-then-id g c = record {
  placed = placed_dead c.requires.places c.loop-id.invariant.placed c.if-id.true;
}

pub bounds-idx_map-fail : goal.bounds-idx_map-fail
bounds-idx_map-fail g c =
    let states = c.args.states.now in let i = c.loop-id.id in
    let link = link_at states i c.index-states-id.result c.loop-id-test.true c.index-states-id.is in
    let low : slice_index (fails_of states) i < length states = c.requires.links i c.loop-id-test.true c.if-id.false in
    omega (arith, low, link, c.fail.ensures, c.requires.places.size)

pub bounds-elements-idx : goal.bounds-elements-idx
bounds-elements-idx g c =
    let inside : slice_index c.args.idx_map.now c.loop-id.id < length c.args.elements.now = c.requires.places.inside c.loop-id.id c.loop-id-test.true in
    omega (arith, inside, c.loop-id.invariant.placed.size)

pub loop-id-preserved : goal.loop-id-preserved
loop-id-preserved g c =
    let states = c.args.states.now in let i = c.loop-id.id in
    let inside : slice_index c.args.idx_map.now i < length c.args.elements.now = c.requires.places.inside i c.loop-id-test.true in
    let link = link_at states i c.index-states-id.result c.loop-id-test.true c.index-states-id.is in
    let position = position_at states i c.index-states-id.result c.loop-id-test.true c.index-states-id.is in
    record {
      placed = placed_more c.requires.places c.loop-id.invariant.placed c.new.result c.loop-id-test.true (omega (arith, inside, c.loop-id.invariant.placed.size)) c.if-id.false
          c.new.ensures.base
          c.new.ensures.check
          (c.new.ensures.fail ∙ ap (λ k. slice_index c.args.idx_map.now k) (c.fail.ensures ∙ sym link))
          (c.new.ensures.output ∙ (c.output_pos.ensures ∙ sym position));
    }

pub returns : goal.returns
returns g c =
    let P : ℕ → Type 0 = λ m. HasWritten m c.args.idx_map.now c.args.bases.now (fails_of c.args.states.now) (positions_of c.args.states.now) c.args.elements.now c.loop-id.elements in
    subst P (let ends : c.loop-id.id ≡ length c.args.states.now = omega (arith, c.loop-id-test.false, c.loop-id.auto.id-end) in ends) c.loop-id.invariant.placed
