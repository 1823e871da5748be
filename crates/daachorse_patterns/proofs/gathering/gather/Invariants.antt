-- The list has the items that the iterator gave so far.
use Rattle.std.proofs.Common.{◌≡◌}
use Rattle.daachorse_patterns.proofs.gathering.gather.Given as goal

abbrev pub invariant-loop-item : goal.invariant-loop-item
invariant-loop-item g l = l.all.items ≡ l.yielded
