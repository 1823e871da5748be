-- The elements that were passed have their marks, and there is room for all.
use Rattle.std.proofs.Common.{◌≤◌}
use Rattle.std.specs.Prelude.{vec_capacity}
use Rattle.daachorse_array.specs.Marks.{AreChildMarks}
use Rattle.daachorse_array.proofs.marks.child_marks.Given as goal

abbrev pub invariant-loop-element : goal.invariant-loop-element
invariant-loop-element g l = record {
  marked : AreChildMarks (g.E.Array.sees l.edges).child l.element l.marks.items;
  room : (g.E.Array.sees l.edges).count ≤ vec_capacity l.marks;
}
