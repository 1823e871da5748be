-- The members that are left will follow with their units.
use Rattle.std.proofs.Common.{◌≡◌, ◌<◌, ◌++◌, true, map}
use Rattle.std.specs.List.{AllByRecursion}
use Rattle.daachorse_array.specs.Edges.{is_in, members}
use Rattle.daachorse_array.proofs.SortLaws.{kid_of}
use Rattle.daachorse_array.proofs.children.list_children.Given as goal

abbrev pub invariant-loop-member : goal.invariant-loop-member
invariant-loop-member g l =
    let edge = (g.E.Array.sees l.edges).edge in
    let count = (g.E.Array.sees l.edges).count in
    record {
      less : AllByRecursion (λ j. (j < count) × (is_in l.group (edge j) ≡ true)) l.member-iterator;
      done : l.list.items ++ map (kid_of edge) l.member-iterator ≡ map (kid_of edge) (members edge l.group count);
    }
