-- The pairs that end before byte i stand at their offsets.
use Rattle.std.proofs.Common.{◌≡◌, ◌+◌, ◌≤◌, length}
use Rattle.daachorse_prefilter.specs.Building.{ArePairCounts}
use Rattle.daachorse_prefilter.proofs.Marking.{AreMarkedBelow}
use Rattle.daachorse_prefilter.proofs.prefilter.builder.clear_pairs.Given as goal

abbrev pub invariant-loop-i : goal.invariant-loop-i
invariant-loop-i g l = record {
  near : l.i ≤ length l.window + 1;
  sized : length l.table ≡ 65536;
  counted : ArePairCounts l.table l.counts;
  marked : AreMarkedBelow l.initial.table l.table l.window l.i;
}
