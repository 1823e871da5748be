-- The edges of the root that were passed have been entered.
use Rattle.std.proofs.Common.{length}
use Rattle.daachorse_build.specs.Tables.{edges_of}
use Rattle.daachorse_build.proofs.RootEdges.{AreEntered}
use Rattle.daachorse_build.proofs.nfa_builder.root_children.RootChildren.of.Given as goal

abbrev pub invariant-loop-label : goal.invariant-loop-label
invariant-loop-label g l = AreEntered g.L.Ord.cmp g.L.EdgeLabel.unit (edges_of l.states) l.ids (length l.yielded)
