-- The children that are left will be put aside.
use Rattle.std.proofs.Common.{◌≡◌, ◌≤◌, length, map, reverse}
use Rattle.daachorse_array.specs.Edges.{children_below, put_before}
use Rattle.daachorse_array.specs.Trees.{elements_of}
use Rattle.daachorse_array.proofs.children.put_aside.Given as goal

abbrev pub invariant-loop-unit : goal.invariant-loop-unit
invariant-loop-unit g l =
    let kids = children_below (g.E.Array.sees l.edges).child l.element (g.E.Array.sees l.edges).units in
    record {
      aside : put_before (map (λ j. (l.depth, j)) (elements_of l.list.items)) (reverse l.aside.items) ≡ put_before (map (λ j. (l.depth, j)) kids) (reverse l.fn.aside.items);
      few : length l.list.items ≤ length kids;
    }

abbrev pub decreases-loop-unit : goal.decreases-loop-unit
decreases-loop-unit g l = length l.list.items
