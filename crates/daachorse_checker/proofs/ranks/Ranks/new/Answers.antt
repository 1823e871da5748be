-- At the end of the walk the children of all elements with ranks have ranks too, so just the elements that texts lead to have one, and each
-- is reached by one text.
use Rattle.std.proofs.Common.{◌≡◌, length, arith}
use Rattle.daachorse_checker.proofs.ExpandLaws.{few_ranks, all_ranked}
use Rattle.daachorse_checker.proofs.ranks.Ranks.new.Goals as goal

pub overflow_add-next : goal.overflow_add-next
overflow_add-next g c =
    let walk = c.loop-next.invariant.walk in
    omega (
      arith,
      few_ranks c.requires.edges.tell walk.ranks walk.marks_each,
      c.num_elements-count.ensures.all,
      c.num_elements-count.ensures.few,
      c.loop-next-test.true,
      c.len.ensures,
    )

pub loop-next-smaller : goal.loop-next-smaller
loop-next-smaller g c =
    let walk = c.loop-next.invariant.walk in
    omega (arith, few_ranks c.requires.edges.tell walk.ranks walk.marks_each, c.loop-next-test.true, c.len.ensures)

pub returns-clause-yes : goal.returns-clause-yes
returns-clause-yes g c =
    let walk = c.loop-next.invariant.walk in
    let done : c.loop-next.next ≡ length c.loop-next.ranks.order.items =
    omega (arith, walk.within, c.loop-next-test.false, c.len.ensures) in
    let both = all_ranked c.requires.edges.tell (λ i u j e. (c.requires.edges.inside i u j e).1) (rw done at walk) in
    (both.1, both.0)
