-- Where nothing was read, the standard search finds the first match of the empty key, whose outputs the walk keeps, and nothing if no key is empty.
use Rattle.daachorse_search.proofs.FindLaws.{finding-at, stops-begin}
use Rattle.daachorse_search.proofs.find.FindWalkStepwise.begin.Goals as goal

pub returns : goal.returns
returns g c =
    let A = g.A.Automaton in let unit = g.A.Unit.EdgeLabel in let s = c.args.self.now in
    stops-begin unit.width g.met.A.Unit.EdgeLabel.wide A.sees s c.self.inside.everywhere c.requires (g.met.A.Automaton.no_output s.automaton) (finding-at unit.width g.met.A.Unit.EdgeLabel.wide A.sees c.self.inside.walk s c.self.inside.everywhere c.self.view_is c.self.invariant)
