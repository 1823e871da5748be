-- Whether some key is empty stays as it was with the automaton, and a walk that has read nothing and taken no turn stands as one that begins.
use Rattle.daachorse_search.proofs.FindLaws.{finding-again}
use Rattle.daachorse_search.proofs.find.FindWalkStepwise.begin_again.Goals as goal

pub invariant_of-self : goal.invariant_of-self
invariant_of-self g c =
    let A = g.A.Automaton in let unit = g.A.Unit.EdgeLabel in let i = c.self.inside in let again = c.begin_again in
    finding-again unit.width g.met.A.Unit.EdgeLabel.wide A.sees i.walk again.new.self i.everywhere c.self.invariant again.ensures.automaton again.ensures.seen again.ensures.turns
