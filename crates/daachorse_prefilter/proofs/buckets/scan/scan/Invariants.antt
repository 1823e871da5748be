-- The state shows the windows, and no bucket lets one of those pass that were read to their end.
use Rattle.std.proofs.Common.{◌≡◌, ◌⊎◌, ◌+◌, ◌-◌, ◌≤◌, length, ℕ, drop, false}
use Rattle.daachorse_prefilter.specs.Buckets.{some_lets}
use Rattle.daachorse_prefilter.specs.BucketScans.{Shows}
use Rattle.daachorse_prefilter.proofs.buckets.scan.scan.Given as goal

abbrev pub invariant-loop-place : goal.invariant-loop-place
invariant-loop-place l = record {
  inside : l.place ≤ length l.haystack;
  begun : (l.place ≡ l.pos) ⊎ (l.pos + 16 ≤ l.place);
  shows : Shows l.entries l.haystack l.pos l.stride l.place l.state;
  none : (q : ℕ) → l.pos ≤ q → q + 8 ≤ l.place → some_lets l.entries (drop q l.haystack) ≡ false;
}

abbrev pub decreases-loop-place : goal.decreases-loop-place
decreases-loop-place l = length l.haystack - l.place
