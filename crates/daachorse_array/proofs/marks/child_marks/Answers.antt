-- Each element is told from its own group, and marked behind the others.
use Rattle.std.proofs.Common.{◌≡◌, arith, subst, ℕ}
use Rattle.daachorse_array.specs.Marks.{AreChildMarks}
use Rattle.daachorse_array.proofs.MarkLaws.{marks-start, marks-next}
use Rattle.daachorse_array.proofs.marks.child_marks.Goals as goal

pub loop-element-init : goal.loop-element-init
loop-element-init g c = record {
  marked = marks-start (g.E.Array.sees c.args.edges.now).child c.in_ok-marks.marks.items c.in_ok-marks.ensures.items;
  room = omega (arith, c.in_ok-marks.ensures.exact, c.num_elements-count.ensures.all);
}

pub loop-element-preserved : goal.loop-element-preserved
loop-element-preserved g c = record {
  marked = marks-next (g.E.Array.sees c.args.edges.now).child c.loop-element.element c.loop-element.marks.items _ _ c.loop-element.invariant.marked c.push_reserved.ensures.items c.has_child-mark.ensures;
  room = omega (arith, c.loop-element.invariant.room, c.push_reserved.ensures.capacity);
}

pub returns-clause-ok : goal.returns-clause-ok
returns-clause-ok g c =
    let view = g.E.Array.sees c.args.edges.now in
    let end : c.loop-element.element ≡ view.count = let past = c.loop-element-test.false in omega (arith, past, c.loop-element.auto.element-end, c.num_elements-count.ensures.all) in
    let P : ℕ → Type 0 = λ k. AreChildMarks view.child k c.loop-element.marks.items in
    subst P end c.loop-element.invariant.marked
