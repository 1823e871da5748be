-- The children so far have vacant elements.
use Rattle.std.proofs.Common.{◌≡◌, ℕ, ◌<◌, false, bit_xor}
use Rattle.daachorse_placement.specs.FreeLists.{is_used}
use Rattle.daachorse_placement.specs.Placement.{label_of}
use Rattle.daachorse_placement.proofs.build_helper.free_list.FreeList.fits.Given as goal

abbrev pub invariant-loop-label : goal.invariant-loop-label
invariant-loop-label g l = (j : ℕ) → j < l.label-index → is_used l.self (bit_xor l.base (label_of l.children j)) ≡ false
