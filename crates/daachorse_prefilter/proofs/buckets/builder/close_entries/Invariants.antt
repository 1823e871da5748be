-- The entries so far have what the mask has, and the others are as they were.
use Rattle.std.proofs.Common.{◌≡◌, ℕ, ◌<◌, ◌≤◌, get_or, bit_and}
use Rattle.daachorse_prefilter.proofs.buckets.builder.close_entries.Given as goal

abbrev pub invariant-loop-entry : goal.invariant-loop-entry
invariant-loop-entry l = record {
  masked : (y : ℕ) → y < l.entry-index → get_or l.entries y 0 ≡ bit_and (get_or l.fn.entries y 0) l.mask;
  others : (y : ℕ) → l.entry-index ≤ y → get_or l.entries y 0 ≡ get_or l.fn.entries y 0;
}
