-- The children so far have their elements.
use Rattle.daachorse_placement.specs.FreeLists.{HasTaken, IsMapOf, IsWhole}
use Rattle.daachorse_placement.proofs.build_helper.free_list.FreeList.take.Given as goal

abbrev pub invariant-loop-label : goal.invariant-loop-label
invariant-loop-label g l = record {
  whole : IsWhole l.self;
  taken : HasTaken l.fn.self l.self l.children l.label-index l.base;
  map : IsMapOf l.fn.idx_map l.idx_map l.children l.label-index l.base;
}
