-- The members of the group that are left have no entries yet.
use Rattle.daachorse_checker.proofs.FilterLaws.{IsPushing}
use Rattle.daachorse_checker.proofs.filters.push_children.Given as goal

abbrev pub invariant-loop-member : goal.invariant-loop-member
invariant-loop-member g l =
    IsPushing (g.E.Array.sees l.array).child (g.E.Array.sees l.array).bytes l.filter (g.E.Array.sees l.array).edge (g.E.Array.sees l.array).count l.group l.entry l.member-iterator l.fn.next.items l.next.items
