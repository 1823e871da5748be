-- The selected lines so far were written and counted, and after these come those that are left.
use Rattle.std.proofs.Common.{◌≡◌, ◌+◌, ◌≤◌, List, ℕ, ◌++◌, length}
use Rattle.std.specs.List.{flat_map}
use Rattle.daacgrep_command.specs.Jobs.{wanted_of}
use Rattle.daacgrep_command.specs.Lines.{lines_of_part}
use Rattle.daacgrep_command.specs.Printed.{line_text, lines_text, selected_count}
use Rattle.daacgrep_command.proofs.Writing.{HasSent}
use Rattle.daacgrep_command.proofs.search.Job.write_selected.Given as goal

abbrev pub invariant-loop-line : goal.invariant-loop-line
invariant-loop-line g l = record {
  sent : List ℕ;
  is : lines_text (wanted_of l.fn.self) l.fn.name (lines_of_part l.fn.self.task.labels.end l.fn.part)
      ≡ sent ++ flat_map (line_text (wanted_of l.fn.self) l.fn.name l.fn.self.task.report) l.line-iterator;
  counted : selected_count (wanted_of l.fn.self).sought l.fn.self.task.inverts (lines_of_part l.fn.self.task.labels.end l.fn.part)
      ≡ l.count + length l.line-iterator;
  few : l.count + length l.line-iterator ≤ length l.fn.part.bytes.now;
  written : HasSent (g.S.Output.sees l.fn.out) (g.S.Output.sees l.out) sent;
}
