-- The new elements so far are linked, and nothing else changes.
use Rattle.std.proofs.Common.{◌≡◌, ◌+◌, ℕ, ◌<◌, ◌≤◌, length, get_or}
use Rattle.daachorse_placement.specs.FreeLists.{element_count}
use Rattle.daachorse_placement.proofs.build_helper.free_list.FreeList.add_block.Given as goal

abbrev pub invariant-loop-vacant : goal.invariant-loop-vacant
invariant-loop-vacant g l = record {
  same : l.self.used_index.items ≡ l.initial.self.used_index.items;
  bases : l.self.used_base.items ≡ l.initial.self.used_base.items;
  block : l.self.block_len ≡ l.initial.self.block_len;
  blocks : l.self.num_blocks ≡ l.initial.self.num_blocks;
  windowed : l.self.windowed ≡ l.initial.self.windowed;
  first : l.self.first ≡ l.initial.self.first;
  many : length l.self.next.items ≡ l.vacant;
  old : (k : ℕ) → k < element_count l.fn.self → get_or l.self.next.items k 0 ≡ get_or l.fn.self.next.items k 0;
  fresh : (k : ℕ) → element_count l.fn.self ≤ k → k < l.vacant → get_or l.self.next.items k 0 ≡ k + 1;
}
