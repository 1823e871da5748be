-- The pattern is marked at the offsets so far, and each other bit is as it was.
use Rattle.std.proofs.Common.{◌≡◌, ℕ, ◌<◌, length}
use Rattle.std.specs.Prelude.{◌||◌}
use Rattle.daachorse_prefilter.specs.Buckets.{is_open, opens}
use Rattle.daachorse_prefilter.proofs.buckets.builder.mark_offsets.Given as goal

abbrev pub invariant-loop-k : goal.invariant-loop-k
invariant-loop-k l = record {
  sized : length l.entries ≡ 8192;
  opened : (y i : ℕ) → i < 64 → is_open l.entries l.mask y i ≡ (is_open l.fn.entries l.fn.mask y i || opens l.pattern l.bucket l.k y i);
}
