-- Of the elements that were reached, the first so many were entered, and there is room for all.
use Rattle.std.proofs.Common.{◌-◌, ◌≤◌}
use Rattle.std.specs.Prelude.{vec_capacity}
use Rattle.daachorse_array.proofs.ReachLaws.{IsReaching}
use Rattle.daachorse_array.proofs.depths.depths.Given as goal

abbrev pub invariant-elements : goal.invariant-elements
invariant-elements g l = record {
  reaching : IsReaching (g.E.Array.sees l.edges).child (g.E.Array.sees l.edges).count (g.E.Array.sees l.edges).units l.reached.items l.entered l.depths.items;
  room : (g.E.Array.sees l.edges).count ≤ vec_capacity l.reached;
}

abbrev pub decreases-elements : goal.decreases-elements
decreases-elements g l = (g.E.Array.sees l.edges).count - l.entered
