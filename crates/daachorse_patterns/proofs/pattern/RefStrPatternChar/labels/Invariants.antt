-- The buffer has the characters that the text gave so far.
use Rattle.std.proofs.Common.{◌≡◌}
use Rattle.daachorse_patterns.proofs.pattern.RefStrPatternChar.labels.Given as goal

abbrev pub invariant-loop-character : goal.invariant-loop-character
invariant-loop-character g l = l.buffer.items ≡ l.yielded
