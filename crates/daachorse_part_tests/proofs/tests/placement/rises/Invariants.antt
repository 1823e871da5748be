-- The labels and ids so far rise.
use Rattle.std.proofs.Common.{◌≤◌}
use Rattle.daachorse_part_tests.specs.Rising.{AreRising}
use Rattle.daachorse_part_tests.proofs.tests.placement.rises.Given as goal

abbrev pub invariant-loop-label : goal.invariant-loop-label
invariant-loop-label l = record {
  rising : AreRising l.children l.label-index l.label_from l.low l.id_from;
  below : l.label_from ≤ l.block_len;
}
