-- The bit is 0 for each third byte so far, and each other is as it was.
use Rattle.std.proofs.Common.{◌≡◌, ℕ, ◌+◌, ◌<◌, ◌&&◌, length, get_or}
use Rattle.std.specs.Prelude.{◌==◌, ◌||◌}
use Rattle.daachorse_model.specs.Filter.{is_clear}
use Rattle.daachorse_prefilter.specs.Buckets.{slot, some_below}
use Rattle.daachorse_prefilter.proofs.buckets.builder.mark.Given as goal

abbrev pub invariant-loop-byte : goal.invariant-loop-byte
invariant-loop-byte l = record {
  sized : length l.entries ≡ 8192;
  opened : (y i : ℕ) → i < 64 → is_clear (get_or l.entries y 0) i
      ≡ (is_clear (get_or l.fn.entries y 0) i || ((i == l.bit) && some_below (λ c. y == slot (get_or l.pattern l.k 0) (get_or l.pattern (l.k + 1) 0) c) l.byte));
}
