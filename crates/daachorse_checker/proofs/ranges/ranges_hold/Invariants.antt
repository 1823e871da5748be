-- The link of each element so far is an element, and its position is that of an output, or 0.
use Rattle.std.proofs.Common.{ℕ, ◌<◌, ◌≤◌}
use Rattle.daachorse_checker.proofs.ranges.ranges_hold.Given as goal

abbrev pub invariant-loop-element : goal.invariant-loop-element
invariant-loop-element g l = record {
  links : (i : ℕ) → i < l.element → (g.E.Array.sees l.array).fail i < (g.E.Array.sees l.array).count;
  positions : (i : ℕ) → i < l.element → (g.E.Array.sees l.array).first i ≤ l.num_outputs;
}
