-- Behind places where the filter does not pass the walk goes on as one that begins there.
use Rattle.std.proofs.Common.{arith}
use Rattle.daachorse_search.proofs.SkipLaws.{SkipsTo-first, SkipsTo-stays, SkipsTo-again}
use Rattle.daachorse_search.proofs.matches.skip_at_root.Goals as goal

pub returns-then-not-is_at_root-clause-skips : goal.returns-then-not-is_at_root-clause-skips
returns-then-not-is_at_root-clause-skips g c = SkipsTo-first

pub returns-then-before-left-clause-skips : goal.returns-then-before-left-clause-skips
returns-then-before-left-clause-skips g c = SkipsTo-stays g.met.W.Unit.EdgeLabel.wide c.skip.ensures.goes (omega (arith, c.if-before-left.true, c.left-before.ensures, c.left.ensures))

pub returns-clause-skips : goal.returns-clause-skips
returns-clause-skips g c =
    let walked = c.turns_are_bounded.ensures in let again = c.begin_again in
    SkipsTo-again
    c.requires.sound c.skip.ensures.goes (omega (arith, c.if-before-left.false, c.left-before.ensures, c.left.ensures)) c.if-not-is_at_root.ensures.afresh walked.most walked.single walked.least again.ensures.automaton again.ensures.read again.ensures.counted
