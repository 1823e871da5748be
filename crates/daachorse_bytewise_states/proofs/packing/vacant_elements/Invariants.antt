-- The blocks so far are vacant.
use Rattle.std.proofs.Common.{◌≡◌, ℕ, ◌*◌, ◌<◌, length}
use Rattle.daachorse_bytewise_states.specs.Packing.{IsVacant, element_at}
use Rattle.daachorse_bytewise_states.proofs.packing.vacant_elements.Given as goal

abbrev pub invariant-loop-block : goal.invariant-loop-block
invariant-loop-block g l = record {
  size : length l.elements.items ≡ l.block * 256;
  vacant : (i : ℕ) → i < length l.elements.items → IsVacant l.fn.helper i (element_at l.elements.items i);
}
