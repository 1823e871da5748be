-- The walk begins again at the root behind each match, so the matches that it finds with the unit are those that start behind the last one, of which the first is the standard search's.
use Rattle.std.proofs.Common.{sym, ◌∙◌, arith}
use Rattle.std.proofs.lemmas.Grind.{common_steps}
use Rattle.daachorse_search.proofs.FindLaws.{finding-skip, finding-pass, finding-find}
use Rattle.daachorse_search.proofs.find.FindWalkStepwise.advance.Goals as goal

-- with an empty key each place has its match
pub returns-then-is_some-clause-stops : goal.returns-then-is_some-clause-stops
returns-then-is_some-clause-stops g c =
    let A = g.A.Automaton in let unit = g.A.Unit.EdgeLabel in let s = c.self.inside in
    (finding-skip unit.width g.met.A.Unit.EdgeLabel.wide A.sees s.walk c.skip.new.self (unit.unit c.args.unit) s.everywhere (sym c.is_some.ensures ∙ c.if-is_some.true) c.self.invariant c.skip.ensures.automaton c.skip.ensures.seen c.skip.ensures.turns).1

-- a match ends with the unit
pub invariant_of-self-then-is_some-2 : goal.invariant_of-self-then-is_some-2
invariant_of-self-then-is_some-2 g c =
    let A = g.A.Automaton in let unit = g.A.Unit.EdgeLabel in let s = c.self.inside in let found = c.consume-found in
    (finding-find unit.width g.met.A.Unit.EdgeLabel.wide A.sees s.walk c.consume-found.new.self c.restart.new.self (unit.unit c.args.unit) s.everywhere found.result (sym c.is_some.ensures ∙ c.if-is_some.false) (sym c.is_some-2.ensures ∙ c.if-is_some-2.true)
    c.self.invariant c.consume-found.ensures.automaton c.consume-found.ensures.seen (found.ensures.outputs, found.ensures.some, g.met.A.Automaton.no_output c.consume-found.new.self.automaton) c.restart.ensures.automaton c.restart.ensures.seen).0

-- none does
pub invariant_of-self-else-is_some-2 : goal.invariant_of-self-else-is_some-2
invariant_of-self-else-is_some-2 g c =
    let A = g.A.Automaton in let unit = g.A.Unit.EdgeLabel in let s = c.self.inside in let found = c.consume-found in
    (finding-pass unit.width g.met.A.Unit.EdgeLabel.wide A.sees s.walk c.consume-found.new.self (unit.unit c.args.unit) s.everywhere found.result (sym c.is_some.ensures ∙ c.if-is_some.false) (sym c.is_some-2.ensures ∙ c.if-is_some-2.false)
    c.self.invariant c.consume-found.ensures.automaton c.consume-found.ensures.seen (found.ensures.outputs, found.ensures.some, g.met.A.Automaton.no_output c.consume-found.new.self.automaton)).0

pub returns-then-is_some-2-clause-stops : goal.returns-then-is_some-2-clause-stops
returns-then-is_some-2-clause-stops g c =
    let A = g.A.Automaton in let unit = g.A.Unit.EdgeLabel in let s = c.self.inside in let found = c.consume-found in
    (finding-find unit.width g.met.A.Unit.EdgeLabel.wide A.sees s.walk c.consume-found.new.self c.restart.new.self (unit.unit c.args.unit) s.everywhere found.result (sym c.is_some.ensures ∙ c.if-is_some.false) (sym c.is_some-2.ensures ∙ c.if-is_some-2.true)
    c.self.invariant c.consume-found.ensures.automaton c.consume-found.ensures.seen (found.ensures.outputs, found.ensures.some, g.met.A.Automaton.no_output c.consume-found.new.self.automaton) c.restart.ensures.automaton c.restart.ensures.seen).1

pub returns-else-is_some-2-clause-stops : goal.returns-else-is_some-2-clause-stops
returns-else-is_some-2-clause-stops g c =
    let A = g.A.Automaton in let unit = g.A.Unit.EdgeLabel in let s = c.self.inside in let found = c.consume-found in
    (finding-pass unit.width g.met.A.Unit.EdgeLabel.wide A.sees s.walk c.consume-found.new.self (unit.unit c.args.unit) s.everywhere found.result (sym c.is_some.ensures ∙ c.if-is_some.false) (sym c.is_some-2.ensures ∙ c.if-is_some-2.false)
    c.self.invariant c.consume-found.ensures.automaton c.consume-found.ensures.seen (found.ensures.outputs, found.ensures.some, g.met.A.Automaton.no_output c.consume-found.new.self.automaton)).1

pub returns-then-is_some-2-clause-read : goal.returns-then-is_some-2-clause-read
returns-then-is_some-2-clause-read g c = grind (arith, common_steps)

pub returns-else-is_some-2-clause-read : goal.returns-else-is_some-2-clause-read
returns-else-is_some-2-clause-read g c = grind (arith, common_steps)
