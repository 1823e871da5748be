-- No unit comes after those that were read.
use Rattle.daachorse_streams.proofs.StreamLaws.{ended}
use Rattle.daachorse_streams.proofs.leftmost_stream.LeftmostStream.end.Goals as goal

pub invariant_of-self : goal.invariant_of-self
invariant_of-self g c = (c.self.invariant.0, ended g.A.Unit.EdgeLabel.width g.met.A.Unit.EdgeLabel.wide (g.A.Automaton.sees c.self.inside.automaton) g.A.Unit.EdgeLabel.unit c.self.invariant.1)
