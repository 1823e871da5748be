-- The lines so far have a match.
use Rattle.std.proofs.Common.{ℕ, ◌-◌, ◌≤◌, length, true}
use Rattle.daacgrep_command.specs.Ahead.{BeginsWithLines}
use Rattle.daacgrep_command.specs.Sought.{sought_of}
use Rattle.daacgrep_command.proofs.ahead.clear_lines.Given as goal

abbrev pub invariant-loop-skip : goal.invariant-loop-skip
invariant-loop-skip g l = record {
  within : l.skip ≤ length l.fn.text;
  lines : ℕ;
  skipped : BeginsWithLines (sought_of l.fn.searcher) l.fn.mark true lines l.skip l.fn.text;
}

abbrev pub decreases-loop-skip : goal.decreases-loop-skip
decreases-loop-skip g l = length l.fn.text - l.skip
