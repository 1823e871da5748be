-- The first entries of the level are done.
use Rattle.daachorse_array.specs.Listing.{has_own}
use Rattle.daachorse_checker.specs.Filters.{IsNextOf}
use Rattle.daachorse_checker.proofs.filters.next_level.Given as goal

abbrev pub invariant-loop-number : goal.invariant-loop-number
invariant-loop-number g l = record {
  is : IsNextOf (g.E.Array.sees l.array).child (g.E.Array.sees l.array).bytes l.filter (has_own (g.E.Array.sees l.array).fail (g.E.Array.sees l.array).first) l.level l.number l.next.items;
}
