-- No link is dead, so the step ends at the longest end of one unit more that begins a key, and that state's outputs are all the matches that end there since the walk last began.
use Rattle.daachorse_search.proofs.WalkLaws.{HasOutputs-first, IsWalking-read}
use Rattle.daachorse_search.proofs.walk.Walk.consume.Goals as goal

-- one more unit was read
pub invariant_of-self : goal.invariant_of-self
invariant_of-self g c =
    let A = g.A.Automaton in let unit = g.A.Unit.EdgeLabel in let s = c.self.inside in let stepped = c.step-state in
    IsWalking-read (A.sees s.automaton) s.seen c.push.new.self (unit.unit c.args.unit) c.code.result s.state s.turns stepped.result.0 stepped.new.turns
    c.self.invariant c.push.ensures c.code.ensures stepped.ensures.reached (stepped.ensures.standard c.self.invariant.alive) stepped.ensures.most stepped.ensures.single stepped.ensures.least

-- what the step tells is what ends with the unit
pub returns-clause-outputs : goal.returns-clause-outputs
returns-clause-outputs g c =
    let A = g.A.Automaton in let unit = g.A.Unit.EdgeLabel in let s = c.self.inside in let stepped = c.step-state in
    HasOutputs-first (A.sees s.automaton) unit.width c.push.new.self stepped.result.0 _ stepped.result.1 (invariant_of-self g c) stepped.ensures.output
