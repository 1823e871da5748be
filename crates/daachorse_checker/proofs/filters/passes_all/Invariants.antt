-- The level of the texts of so many units is at hand.
use Rattle.daachorse_array.specs.Listing.{has_own}
use Rattle.daachorse_checker.specs.Filters.{IsLevel}
use Rattle.daachorse_checker.proofs.filters.passes_all.Given as goal

abbrev pub invariant-loop-depth : goal.invariant-loop-depth
invariant-loop-depth g l = IsLevel (g.E.Array.sees l.array).child (g.E.Array.sees l.array).bytes l.filter (has_own (g.E.Array.sees l.array).fail (g.E.Array.sees l.array).first) l._depth l.level.items
