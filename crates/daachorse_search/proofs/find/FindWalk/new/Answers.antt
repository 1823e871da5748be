-- The root's outputs are those of the empty key, so their position tells whether every place has a match, or whether no key is empty and the walk has yet to read up to one.
use Rattle.daachorse_search.proofs.FindLaws.{finding-begin}
use Rattle.daachorse_search.proofs.find.FindWalk.new.Goals as goal

pub invariant_of-result : goal.invariant_of-result
invariant_of-result g c =
    let A = g.A.Automaton in let unit = g.A.Unit.EdgeLabel in let walk = c.new-walk.result in let found = c.outputs-everywhere in
    finding-begin unit.width g.met.A.Unit.EdgeLabel.wide A.sees walk.automaton walk.seen walk.turns found.result c.new-walk.ensures.seen c.new-walk.ensures.turns (found.ensures.outputs, found.ensures.some, g.met.A.Automaton.no_output walk.automaton)
