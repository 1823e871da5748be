-- The state shows the windows, and each that a bucket lets pass left a bit 0.
use Rattle.std.proofs.Common.{◌+◌, ◌*◌, ℕ}
use Rattle.daachorse_prefilter.specs.BucketScans.{Shows}
use Rattle.daachorse_prefilter.proofs.BucketScanLaws.{HasShown}
use Rattle.daachorse_prefilter.proofs.buckets.scan.read_round.Given as goal

abbrev pub invariant-loop-j : goal.invariant-loop-j
invariant-loop-j l = record {
  shows : (pos : ℕ) → Shows l.entries l.haystack pos l.stride l.place l.initial.state → Shows l.entries l.haystack pos l.stride (l.place + l.j * l.stride) l.state;
  shown : HasShown l.entries l.haystack l.stride l.place (l.place + l.j * l.stride) l.all l.initial.state;
}
