-- The lines so far have no match.
use Rattle.std.proofs.Common.{◌-◌, ◌≤◌, length}
use Rattle.daacgrep_command.specs.Ahead.{AreClear}
use Rattle.daacgrep_command.specs.Sought.{sought_of}
use Rattle.daacgrep_command.proofs.ahead.next_with_match.Given as goal

abbrev pub invariant-loop-skip : goal.invariant-loop-skip
invariant-loop-skip g l = record {
  within : l.skip ≤ length l.fn.text;
  clear : AreClear (sought_of l.fn.searcher) l.fn.mark l.skip l.fn.text;
}

abbrev pub decreases-loop-skip : goal.decreases-loop-skip
decreases-loop-skip g l = length l.fn.text - l.skip
