-- The bases of the block so far are taken.
use Rattle.std.proofs.Common.{◌≡◌, ◌+◌, ℕ, ◌<◌, true}
use Rattle.daachorse_placement.specs.FreeLists.{is_base}
use Rattle.daachorse_placement.proofs.build_helper.least_unused.Given as goal

abbrev pub invariant-loop-offset : goal.invariant-loop-offset
invariant-loop-offset g l = (k : ℕ) → k < l.offset → is_base l.elements (l.start + k) ≡ true
