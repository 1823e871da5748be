-- Where the links end the step is the longest end that begins a key if no link is dead, and in a leftmost automaton the cut of what was read; a unit that is in no key leads to the root.
use Rattle.std.proofs.Common.{inl}
use Rattle.daachorse_search.proofs.LookLaws.{StepEnds-cut, StepEnds-left, StepEnds-long}
use Rattle.daachorse_search.proofs.walk.step.Goals as goal

-- no key has the unit
pub returns-in_default-clause-ends : goal.returns-in_default-clause-ends
returns-in_default-clause-ends g c = inl (c.in_default.ensures.1, c.root-root.ensures.text)

pub returns-in_default-clause-standard : goal.returns-in_default-clause-standard
returns-in_default-clause-standard g c = λ alive.
    StepEnds-long (g.A.Automaton.sees c.args.automaton.now) _ _ _ (inl (c.in_default.ensures.1, c.root-root.ensures.text)) alive

pub returns-in_default-clause-leftmost : goal.returns-in_default-clause-leftmost
returns-in_default-clause-leftmost g c =
    λ kind w h. StepEnds-left (g.A.Automaton.sees c.args.automaton.now) kind w _ _ _ h (inl (c.in_default.ensures.1, c.root-root.ensures.text))

pub returns-in_default-clause-cut : goal.returns-in_default-clause-cut
returns-in_default-clause-cut g c =
    λ kind w h. StepEnds-cut (g.A.Automaton.sees c.args.automaton.now) kind w _ _ _ h (inl (c.in_default.ensures.1, c.root-root.ensures.text))

-- some key may have it
pub follow-requires-clause-unit : goal.follow-requires-clause-unit
follow-requires-clause-unit g c = (_, c.in-Some.ensures.0)

pub returns-clause-ends : goal.returns-clause-ends
returns-clause-ends g c = c.follow.ensures.ends _ c.in-Some.ensures.0

pub returns-clause-standard : goal.returns-clause-standard
returns-clause-standard g c = λ alive.
    StepEnds-long (g.A.Automaton.sees c.args.automaton.now) _ _ _ (c.follow.ensures.ends _ c.in-Some.ensures.0) alive

pub returns-clause-leftmost : goal.returns-clause-leftmost
returns-clause-leftmost g c =
    λ kind w h. StepEnds-left (g.A.Automaton.sees c.args.automaton.now) kind w _ _ _ h (c.follow.ensures.ends _ c.in-Some.ensures.0)

pub returns-clause-cut : goal.returns-clause-cut
returns-clause-cut g c =
    λ kind w h. StepEnds-cut (g.A.Automaton.sees c.args.automaton.now) kind w _ _ _ h (c.follow.ensures.ends _ c.in-Some.ensures.0)
