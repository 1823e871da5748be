-- The state of the k pairs that were read.
use Rattle.std.proofs.Common.{◌≡◌, ◌+◌, map}
use Rattle.daachorse_prefilter.proofs.Scanned.{states}
use Rattle.daachorse_prefilter.proofs.prefilter.scan.read_pairs.Given as goal

abbrev pub invariant-loop-k : goal.invariant-loop-k
invariant-loop-k g l = let text = map g.R.ByteReading.as_read l.haystack in record {
  read : l.read ≡ states l.table text l.window (l.place + 1) 0 l.k;
}
