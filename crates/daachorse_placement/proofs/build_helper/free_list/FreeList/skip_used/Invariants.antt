-- All elements passed over are used; the number of those to come falls.
use Rattle.std.proofs.Common.{◌≡◌, ℕ, ◌-◌, ◌<◌, ◌≤◌, true}
use Rattle.daachorse_placement.specs.FreeLists.{element_count, is_used}
use Rattle.daachorse_placement.proofs.build_helper.free_list.FreeList.skip_used.Given as goal

abbrev pub invariant-loop-idx : goal.invariant-loop-idx
invariant-loop-idx g l = record {
  from : l.start ≤ l.idx;
  inside : l.idx ≤ element_count l.self;
  used : (k : ℕ) → l.start ≤ k → k < l.idx → is_used l.self k ≡ true;
}

abbrev pub decreases-loop-idx : goal.decreases-loop-idx
decreases-loop-idx g l = element_count l.self - l.idx
