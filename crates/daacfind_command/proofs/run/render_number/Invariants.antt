-- The digits that are left come before those that stand in the line.
use Rattle.std.proofs.Common.{◌≡◌, ◌+◌, ◌≤◌, ◌∷◌, ◌++◌, length, drop, decimal}
use Rattle.daacfind_command.proofs.run.render_number.Given as goal

abbrev pub invariant-loop-left : goal.invariant-loop-left
invariant-loop-left l = record {
  room : length (decimal l.left) ≤ l.at;
  within : length l.line ≡ length l.fn.line;
  inside : l.at ≤ length l.line;
  start : l.at + length (decimal l.n) + 1 ≡ l.end + length (decimal l.left);
  written : decimal l.left ++ drop l.at l.line ≡ decimal l.n ++ l.mark ∷ drop l.end l.fn.line;
}

abbrev pub decreases-loop-left : goal.decreases-loop-left
decreases-loop-left l = l.left
