-- Each rank so far has the size of its text, which is at most four bytes for each rank before it, as its parent comes earlier.
use Rattle.std.proofs.Common.{◌≡◌, ℕ, ◌*◌, ◌<◌, ◌≤◌, length, get_or}
use Rattle.daachorse_checker.specs.Sizes.{AreSizes}
use Rattle.daachorse_checker.proofs.chains.sizes.Given as goal

abbrev pub invariant-loop-rank : goal.invariant-loop-rank
invariant-loop-rank g l = record {
  each : length l.sizes.items ≡ l.rank;
  short : (k : ℕ) → k < length l.sizes.items → get_or l.sizes.items k 0 ≤ 4 * k;
  are : AreSizes (g.E.Array.sees l.array).child (g.E.Array.sees l.array).width l.ranks.order.items l.sizes.items;
}
