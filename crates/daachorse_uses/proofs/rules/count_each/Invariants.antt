-- The matches so far were counted, and behind them come those that are left.
use Rattle.std.proofs.Common.{◌≡◌, ◌==◌, ◌+◌, ◌<◌, ◌++◌, ◌^◌, ◌-◌, ℕ, count_by, length, min, slice_index}
use Rattle.daachorse_uses.proofs.rules.count_each.Given as goal

abbrev pub invariant-loop-found : goal.invariant-loop-found
invariant-loop-found l = record {
  counted : (rule : ℕ) → rule < length l.counts → slice_index l.counts rule ≡ min (slice_index l.fn.counts rule + count_by (λ m. m.value == rule) l.yielded) (2 ^ 64 - 1);
  parts : l.fn.search.left ≡ l.yielded ++ l.search.left;
  haystack : l.search.haystack ≡ l.fn.search.haystack;
}

abbrev pub decreases-loop-found : goal.decreases-loop-found
decreases-loop-found l = length l.search.left
