-- The matches so far were written, and after these come those that are left.
use Rattle.std.proofs.Common.{◌≡◌, List, ℕ, ◌++◌}
use Rattle.std.specs.List.{flat_map}
use Rattle.daachorse_model.specs.declared.Match.{Match}
use Rattle.daacgrep_command.specs.Jobs.{wanted_of}
use Rattle.daacgrep_command.specs.Lines.{seen}
use Rattle.daacgrep_command.specs.Printed.{match_text, matches_text}
use Rattle.daacgrep_command.specs.Sought.{matches_in}
use Rattle.daacgrep_command.proofs.Writing.{HasSent}
use Rattle.daacgrep_command.proofs.search.Job.write_matches.Given as goal

abbrev pub invariant-loop-found : goal.invariant-loop-found
invariant-loop-found g l = record {
  sent : List ℕ;
  is : matches_text (wanted_of l.fn.self) l.fn.name (seen l.fn.line)
      ≡ sent ++ flat_map (match_text (wanted_of l.fn.self).rules l.fn.self.task.labels l.fn.name (seen l.fn.line)) l.found-iterator;
  before : List (Match ℕ);
  parts : matches_in (wanted_of l.fn.self).sought l.fn.line.bytes.now ≡ before ++ l.found-iterator;
  written : HasSent (g.S.Output.sees l.fn.out) (g.S.Output.sees l.out) sent;
}
