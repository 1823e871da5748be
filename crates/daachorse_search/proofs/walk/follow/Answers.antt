-- A step ends where it ends from the link's state, and the turn for each link is paid for by the text that it shortens, to which the last look adds at most one unit.
use Rattle.std.proofs.Common.{refl, arith}
use Rattle.daachorse_search.proofs.LookLaws.{StepEnds-length, StepEnds-link}
use Rattle.daachorse_search.proofs.walk.follow.Goals as goal
use Rattle.daachorse_search.proofs.walk.follow.Goals.{then-looks_ahead+in-Fail, else-looks_ahead}

-- a look ahead of the loop ends the step, or its link is followed
pub returns-in-Next-clause-output : goal.returns-in-Next-clause-output
returns-in-Next-clause-output g c = c.in-Next.ensures.output c.requires.unit.0 c.requires.unit.1

pub returns-in-Next-clause-ends : goal.returns-in-Next-clause-ends
returns-in-Next-clause-ends g c = λ unit coded. (c.in-Next.ensures.look unit coded).1

pub returns-in-Next-clause-most : goal.returns-in-Next-clause-most
returns-in-Next-clause-most g c =
    let view = g.A.Automaton.sees c.args.automaton.now in
    let looked = c.in-Next.ensures.look c.requires.unit.0 c.requires.unit.1 in
    omega (arith, StepEnds-length view _ _ _ looked.1, c.in-Next.ensures.counted)

pub links-init : goal.links-init
links-init g c =
    let view = g.A.Automaton.sees c.args.automaton.now in
    elim c.if-looks_ahead.branch [
      | then-looks_ahead+in-Fail w ↦
          let looked = w.in-Fail.ensures.look c.requires.unit.0 c.requires.unit.1 in
          rw (w.at-is, w.turns-is) (record {
            reached = looked.0;
            on = λ unit t coded ends. let here = w.in-Fail.ensures.look unit coded in StepEnds-link view _ _ t unit here.1 here.2 here.3 ends;
            counted = omega (arith, looked.3.shorter, w.in-Fail.ensures.counted);
            more = omega (arith, w.in-Fail.ensures.counted);
            linked = λ once. absurd (w.in-Fail.ensures.single once c.requires.unit.0 _ c.requires.unit.1 refl);
          })
      | else-looks_ahead w ↦
          rw (w.at-is, w.turns-is) (record { reached = c.requires.reached; on = λ unit t coded ends. ends; counted = omega arith; more = omega arith; linked = λ once. refl })
    ]

-- so do the others
pub returns-in-Next-turn-clause-output : goal.returns-in-Next-turn-clause-output
returns-in-Next-turn-clause-output g c = c.in-Next-turn.ensures.output c.requires.unit.0 c.requires.unit.1

pub returns-in-Next-turn-clause-ends : goal.returns-in-Next-turn-clause-ends
returns-in-Next-turn-clause-ends g c = λ unit coded. c.links.invariant.on unit _ coded (c.in-Next-turn.ensures.look unit coded).1

pub returns-in-Next-turn-clause-most : goal.returns-in-Next-turn-clause-most
returns-in-Next-turn-clause-most g c =
    let view = g.A.Automaton.sees c.args.automaton.now in
    let looked = c.in-Next-turn.ensures.look c.requires.unit.0 c.requires.unit.1 in
    omega (arith, StepEnds-length view _ _ _ looked.1, c.in-Next-turn.ensures.counted, c.links.invariant.counted)

pub returns-in-Next-turn-clause-single : goal.returns-in-Next-turn-clause-single
returns-in-Next-turn-clause-single g c = λ once. omega (arith, c.in-Next-turn.ensures.counted, c.links.invariant.linked once)

pub links-preserved : goal.links-preserved
links-preserved g c =
    let view = g.A.Automaton.sees c.args.automaton.now in
    let looked = c.in-Fail-turn.ensures.look c.requires.unit.0 c.requires.unit.1 in
    record {
      reached = looked.0;
      on = λ unit t coded ends. let here = c.in-Fail-turn.ensures.look unit coded in c.links.invariant.on unit t coded (StepEnds-link view _ _ t unit here.1 here.2 here.3 ends);
      counted = omega (arith, looked.3.shorter, c.in-Fail-turn.ensures.counted, c.links.invariant.counted);
      more = omega (arith, c.in-Fail-turn.ensures.counted, c.links.invariant.more);
      linked = λ once. absurd (c.in-Fail-turn.ensures.single once c.requires.unit.0 _ c.requires.unit.1 refl);
    }
