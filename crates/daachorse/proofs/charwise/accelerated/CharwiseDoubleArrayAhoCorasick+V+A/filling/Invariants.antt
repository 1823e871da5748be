-- Fewer patterns are left after each text.
use Rattle.std.proofs.Common.{length}
use Rattle.daachorse.proofs.charwise.accelerated.CharwiseDoubleArrayAhoCorasick+V+A.filling.Given as goal

abbrev pub invariant-texts : goal.invariant-texts
invariant-texts g l = record {}

abbrev pub decreases-texts : goal.decreases-texts
decreases-texts g l = length l.texts.left
