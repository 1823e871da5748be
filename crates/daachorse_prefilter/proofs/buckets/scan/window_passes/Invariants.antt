-- The bits of the buckets that let the window pass so far are 0.
use Rattle.std.proofs.Common.{◌≡◌, ℕ, ◌<◌, drop}
use Rattle.daachorse_model.specs.Filter.{is_clear}
use Rattle.daachorse_prefilter.proofs.BucketWindows.{open_so_far}
use Rattle.daachorse_prefilter.proofs.buckets.scan.window_passes.Given as goal

abbrev pub invariant-loop-k : goal.invariant-loop-k
invariant-loop-k l = (b : ℕ) → b < 8 → is_clear l.refused b ≡ open_so_far l.entries (drop l.place l.haystack) b l.k
