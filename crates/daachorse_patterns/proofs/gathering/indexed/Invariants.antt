-- The pairs are the items so far, each with the value of its index.
use Rattle.std.proofs.Common.{take}
use Rattle.daachorse_patterns.specs.Patterns.{AreIndexed}
use Rattle.daachorse_patterns.proofs.gathering.indexed.Given as goal

abbrev pub invariant-loop-index : goal.invariant-loop-index
invariant-loop-index g l = AreIndexed g.V.TryFrom.try_from_gives 0 (take l.index l.items) l.pairs.items
