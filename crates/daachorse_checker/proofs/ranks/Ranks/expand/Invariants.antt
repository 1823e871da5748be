-- The members that are left are the children below some element: from it on all children of this rank have their ranks, and below it none
-- has one under this rank.
use Rattle.std.proofs.Common.{◌≡◌, Some, get_or}
use Rattle.daachorse_checker.proofs.ExpandLaws.{IsLeft}
use Rattle.daachorse_checker.proofs.ranks.Ranks.expand.Given as goal

abbrev pub invariant-loop-member : goal.invariant-loop-member
invariant-loop-member g l =
    let child = (g.E.Array.sees l.array).child in
    let group = (g.E.Array.sees l.array).group in
    let edge = (g.E.Array.sees l.array).edge in
    let count = (g.E.Array.sees l.array).count in
    record {
      left : IsLeft child edge count l.member-iterator l.self.order.items l.self.parents.items l.self.labels.items l.self.marks.items
          l.group l.rank;
      group_of : group (get_or l.self.order.items l.rank 0) ≡ Some l.group;
    }
