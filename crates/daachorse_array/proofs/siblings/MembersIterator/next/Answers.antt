-- The number of the link, and then the list that it goes on with.
use Rattle.std.proofs.Common.{◌<◌, sym, ◌∙◌, rules, arith}
use Rattle.daachorse_array.proofs.LinkedLaws.{linked_from-at}
use Rattle.daachorse_array.proofs.siblings.MembersIterator.next.Goals as goal

pub returns-clause-steps : goal.returns-clause-steps
returns-clause-steps c =
    let more : 0 < c.self.inside.link = omega arith in
    sym c.self.view_is ∙ linked_from-at c.self.inside.next.now c.self.invariant.0 c.self.inside.link more

pub returns-clause-goes : goal.returns-clause-goes
returns-clause-goes c = let e = returns-clause-steps c in rw e (search rules)
