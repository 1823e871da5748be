-- The groups so far rise.
use Rattle.std.proofs.Common.{◌≤◌}
use Rattle.daachorse_part_tests.specs.Rising.{RiseTo}
use Rattle.daachorse_part_tests.proofs.tests.placement.are_rising.Given as goal

abbrev pub invariant-loop-group : goal.invariant-loop-group
invariant-loop-group l = record {
  rising : RiseTo l.groups l.group-index l.block_len l.parent_from l.id_from;
  two : 2 ≤ l.id_from;
}
