-- Each call of `next` gives the first edge that is left.
use Rattle.std.specs.Map.Iter.{deref_pair}
use Rattle.daachorse_build.proofs.EdgeLists.{shows_in_order}
use Rattle.daachorse_build.proofs.edge_map.Iter.new.Goals as goal

pub returns-clause-runs : goal.returns-clause-runs
returns-clause-runs g c = shows_in_order deref_pair
