-- The elements that were passed stand in the lists of their groups, and there is room for all.
use Rattle.std.proofs.Common.{◌≤◌}
use Rattle.std.specs.Prelude.{vec_capacity}
use Rattle.daachorse_array.proofs.LinkedLaws.{IsGrouped}
use Rattle.daachorse_array.proofs.siblings.Siblings.new.Given as goal

abbrev pub invariant-loop-element : goal.invariant-loop-element
invariant-loop-element g l = record {
  grouped : IsGrouped (g.E.Array.sees l.edges).edge (g.E.Array.sees l.edges).count l.element l.first.items l.next.items;
  room : (g.E.Array.sees l.edges).count ≤ vec_capacity l.next;
}
