-- The scan never read more units than there are.
use Rattle.std.proofs.Common.{inr, arith}
use Rattle.daachorse_streams.proofs.SearchingLaws.{walked_within}
use Rattle.daachorse_streams.proofs.search.walk.Goals as goal

pub returns-else-search-len-clause-stops : goal.returns-else-search-len-clause-stops
returns-else-search-len-clause-stops g c =
    let unit = g.A.Unit.EdgeLabel in let s = c.units.search in
    inr (omega (arith, walked_within unit.width (g.A.Automaton.sees c.args.automaton.now) unit.unit c.units.invariant.stands, s.ring.ok.0))
