-- All children of the elements at the ranks before `next` have ranks, and each rank but the root's is one of theirs; no element has two, so
-- `next` rises to at most the number of elements.
use Rattle.std.proofs.Common.{◌-◌}
use Rattle.daachorse_array.specs.Listing.{unit_of}
use Rattle.daachorse_checker.specs.Ranks.{IsRankWalk}
use Rattle.daachorse_checker.proofs.ranks.Ranks.new.Given as goal

abbrev pub invariant-loop-next : goal.invariant-loop-next
invariant-loop-next g l = record {
  walk : IsRankWalk (g.E.Array.sees l.array).child (λ j. unit_of ((g.E.Array.sees l.array).edge j))
      (g.E.Array.sees l.array).count l.ranks.order.items l.ranks.parents.items l.ranks.labels.items l.ranks.marks.items l.next;
}

abbrev pub decreases-loop-next : goal.decreases-loop-next
decreases-loop-next g l = (g.E.Array.sees l.array).count - l.next
