-- Each element so far is linked to the one after it.
use Rattle.std.proofs.Common.{◌≡◌, ◌+◌, ℕ, ◌<◌, length, slice_index}
use Rattle.daachorse_placement.proofs.build_helper.free_list.FreeList.new.Given as goal

abbrev pub invariant-loop-idx : goal.invariant-loop-idx
invariant-loop-idx g l = record {
  many : length l.next.items ≡ l.idx;
  fresh : (k : ℕ) → k < l.idx → slice_index l.next.items k ≡ k + 1;
}
