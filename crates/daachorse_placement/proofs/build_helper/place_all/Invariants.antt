-- The groups so far are placed.
use Rattle.std.proofs.Common.{◌≡◌, ◌||◌, take}
use Rattle.std.specs.List.{list_any}
use Rattle.daachorse_placement.specs.FreeLists.{IsFull, IsWhole, layout_of}
use Rattle.daachorse_placement.specs.Placement.{IsPlaced, is_light}
use Rattle.daachorse_placement.proofs.build_helper.place_all.Given as goal

abbrev pub invariant-loop-group : goal.invariant-loop-group
invariant-loop-group g l = record {
  whole : IsWhole l.elements;
  full : IsFull l.elements;
  windowed : l.elements.windowed ≡ (l.fn.elements.windowed || list_any is_light (take l.group-index l.groups));
  block : l.elements.block_len ≡ l.fn.elements.block_len;
  placed : IsPlaced l.groups l.group-index l.tracked (layout_of l.elements l.idx_map l.bases);
}
