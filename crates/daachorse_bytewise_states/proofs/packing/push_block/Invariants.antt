-- The elements from the first of the block on are vacant.
use Rattle.std.proofs.Common.{◌-◌}
use Rattle.daachorse_bytewise_states.specs.Writing.{HasVacants}
use Rattle.daachorse_bytewise_states.proofs.packing.push_block.Given as goal

abbrev pub invariant-loop-idx : goal.invariant-loop-idx
invariant-loop-idx g l = record {
  vacants : HasVacants (l.idx - l.fn.first) l.fn.unused_base l.fn.elements.items l.elements.items;
}
