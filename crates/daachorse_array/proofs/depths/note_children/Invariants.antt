-- The members of the group that are left will be reached, for which there is room, and those that were have their depth.
use Rattle.std.proofs.Common.{◌≡◌, ◌+◌, ◌<◌, ◌≤◌, ◌++◌, length, true}
use Rattle.std.specs.Prelude.{vec_capacity}
use Rattle.std.specs.List.{AllByRecursion}
use Rattle.daachorse_array.specs.Edges.{is_in, members}
use Rattle.daachorse_array.specs.Trees.{IsMarking}
use Rattle.daachorse_array.proofs.depths.note_children.Given as goal

abbrev pub invariant-loop-child : goal.invariant-loop-child
invariant-loop-child g l =
    let edge = (g.E.Array.sees l.edges).edge in
    let count = (g.E.Array.sees l.edges).count in
    let all = members edge l.group count in
    record {
      less : AllByRecursion (λ j. (j < count) × (is_in l.group (edge j) ≡ true)) l.child-iterator;
      done : l.reached.items ++ l.child-iterator ≡ l.fn.reached.items ++ all;
      room : length l.reached.items + length l.child-iterator ≤ vec_capacity l.reached;
      same : vec_capacity l.reached ≡ vec_capacity l.fn.reached;
      marked : IsMarking all l.child-iterator l.depth l.fn.depths.items l.depths.items;
    }
