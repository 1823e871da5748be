-- Each child is given the check at its place.
use Rattle.std.proofs.Common.{◌<◌, ℕ, List, length, refl, ◌∙◌, ap, arith}
use Rattle.std.specs.Prelude.{slice_index}
use Rattle.std.proofs.lemmas.List.{get_or_default}
use Rattle.daachorse_placement.specs.Placement.{child_id}
use Rattle.daachorse_charwise_states.specs.declared.state.State.{State}
use Rattle.daachorse_charwise_states.specs.Elements.{base_in, fail_in, output_in, vacant}
use Rattle.daachorse_charwise_states.proofs.WritingLaws.{check_more}
use Rattle.daachorse_charwise_states.proofs.packing.set_check.Goals as goal

pub loop-child-preserved : goal.loop-child-preserved
loop-child-preserved c =
    let es : List State = c.loop-child.elements in
    let child : ℕ = child_id c.args.children.now c.loop-child.child-index in
    let p : ℕ = slice_index c.args.idx_map.now child in
    let inside : p < length c.args.elements.now = c.requires.inside child (c.requires.ids c.loop-child.child-index c.loop-child-test.true) in
    let low : p < length es = omega (arith, inside, c.loop-child.auto.elements) in
    let zero : State = record { base = 0; check = 0; fail = 0; output_pos = 0 } in
    let read = get_or_default es p zero vacant low in
    record {
      checked = check_more c.args.children.now c.loop-child.child-index c.args.check c.args.idx_map.now c.args.elements.now es c.loop-child.invariant.checked p refl c.set_check.new.self low
          c.set_check.ensures.check
          (c.set_check.ensures.base ∙ ap base_in read)
          (c.set_check.ensures.fail ∙ ap fail_in read)
          (c.set_check.ensures.output ∙ ap output_in read);
    }
