-- The edges that were passed have their children.
use Rattle.std.proofs.Common.{ℕ, map}
use Rattle.std.specs.Map.Iter.{deref_pair}
use Rattle.daachorse_build.specs.Groups.{AreGiven}
use Rattle.daachorse_build.proofs.nfa_builder.siblings.group_of.Given as goal

abbrev pub invariant-loop-label : goal.invariant-loop-label
invariant-loop-label g l = AreGiven (goal.F-post g l.map_label) (map (deref_pair {K = g.row.L.Denot} {X = ℕ}) l.yielded) l.children.items
