-- No vacant element tried so far has a base, and only links have changed.
use Rattle.std.proofs.Common.{◌≡◌, ◌-◌, ◌<◌, ◌≤◌, false}
use Rattle.daachorse_placement.specs.FreeLists.{HasFlagsOf, IsWhole, NoneFits, boundary_of, element_count, is_used}
use Rattle.daachorse_placement.proofs.build_helper.free_list.FreeList.first_fit.Given as goal

abbrev pub invariant-loop-idx : goal.invariant-loop-idx
invariant-loop-idx g l = record {
  whole : IsWhole l.self;
  kept : HasFlagsOf l.fn.self l.self;
  inside : l.idx ≤ element_count l.self;
  searched : boundary_of l.self ≤ l.idx;
  vacant : l.idx < element_count l.self → is_used l.self l.idx ≡ false;
  none : NoneFits l.fn.self l.children l.idx;
}

abbrev pub decreases-loop-idx : goal.decreases-loop-idx
decreases-loop-idx g l = element_count l.self - l.idx
