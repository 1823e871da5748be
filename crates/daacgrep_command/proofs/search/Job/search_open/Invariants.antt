-- The file was searched up to the window.
use Rattle.std.proofs.Common.{◌≡◌, ◌+◌, ◌-◌, ◌^◌, ℕ, List, length}
use Rattle.daacgrep_command.specs.Jobs.{wanted_of}
use Rattle.daacgrep_command.specs.Lines.{lines_of}
use Rattle.daacgrep_command.specs.Printed.{lines_text}
use Rattle.daacgrep_command.specs.Windows.{HasNone}
use Rattle.daacgrep_command.proofs.Parts.{IsHeldAt}
use Rattle.daacgrep_command.proofs.Writing.{HasSent}
use Rattle.daacgrep_command.proofs.search.Job.search_open.Given as goal

abbrev pub invariant-loop-window : goal.invariant-loop-window
invariant-loop-window g l = record {
  before : List ℕ;
  at : IsHeldAt (wanted_of l.fn.self) (g.F.FileSystem.left l.fn.files) (g.F.FileSystem.left l.files) before l.window.start
      l.window.bytes l.progress;
  written : HasSent (g.S.Output.sees l.fn.out) (g.S.Output.sees l.out)
      (lines_text (wanted_of l.fn.self) l.fn.name (lines_of l.fn.self.task.labels.end before));
  same : g.F.FileSystem.sees l.files ≡ g.F.FileSystem.sees l.fn.files;
  mark : l.window.mark ≡ l.fn.self.task.labels.end;
  passed : HasNone l.window.mark l.window.bytes;
}

abbrev pub decreases-loop-window : goal.decreases-loop-window
decreases-loop-window g l = 2 ^ 64 - (l.window.start + length l.window.bytes)
