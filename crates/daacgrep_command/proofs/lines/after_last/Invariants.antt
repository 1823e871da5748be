-- No mark stands at the place or after it.
use Rattle.std.proofs.Common.{◌≤◌, drop, length}
use Rattle.daacgrep_command.specs.Windows.{HasNone}
use Rattle.daacgrep_command.proofs.lines.after_last.Given as goal

abbrev pub invariant-loop-place : goal.invariant-loop-place
invariant-loop-place l = record {
  within : l.place ≤ length l.fn.text;
  none : HasNone l.fn.mark (drop l.place l.fn.text);
}

abbrev pub decreases-loop-place : goal.decreases-loop-place
decreases-loop-place l = l.place
