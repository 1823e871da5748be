-- No labels are in order, and there is no vector.
use Rattle.std.specs.List.Sorted.{IsStrictlySortedBy}
use Rattle.daachorse_build.proofs.edge_map.EdgeMapDefault.default.Goals as goal

pub invariant_of-result : goal.invariant_of-result
unfolding IsStrictlySortedBy
invariant_of-result g c = (tt, tt)
