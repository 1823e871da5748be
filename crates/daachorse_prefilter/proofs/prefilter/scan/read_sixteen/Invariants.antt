-- The state of the pairs that were read, and beside it that of the pairs eight behind these.
use Rattle.std.proofs.Common.{◌+◌, map}
use Rattle.daachorse_prefilter.proofs.SideBySide.{SameBits, both_states}
use Rattle.daachorse_prefilter.proofs.prefilter.scan.read_sixteen.Given as goal

abbrev pub invariant-loop-k : goal.invariant-loop-k
invariant-loop-k g l = let text = map g.R.ByteReading.as_read l.haystack in SameBits l.read (both_states l.table text l.last (l.place + 1) l.k)
