-- A unit that is passed takes no turn and leaves the walk at the root, whose text is empty, so the bounds on the turns stay.
use Rattle.daachorse_search.proofs.WalkLaws.{IsWalking-skip}
use Rattle.daachorse_search.proofs.walk.Walk.skip.Goals as goal

pub invariant_of-self : goal.invariant_of-self
invariant_of-self g c =
    let A = g.A.Automaton in let unit = g.A.Unit.EdgeLabel in let s = c.self.inside in let root = c.root-self-inside in
    IsWalking-skip (A.sees s.automaton) s.seen c.skip.new.self (unit.unit c.args.unit) c.code.result s.state s.turns root.result
    c.self.invariant c.skip.ensures c.code.ensures root.ensures.reached root.ensures.text
