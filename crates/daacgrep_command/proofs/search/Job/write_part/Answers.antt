-- The value is that of the match, where it is wanted.
use Rattle.std.proofs.Common.{◌+◌}
use Rattle.std.specs.Prelude.{slice_range}
use Rattle.daacgrep_command.specs.Jobs.{wanted_of}
use Rattle.daacgrep_command.specs.Rules.{match_value}
use Rattle.daacgrep_command.proofs.Writing.{written_value}
use Rattle.daacgrep_command.proofs.search.Job.write_part.Goals as goal

pub returns : goal.returns
returns g c =
    let line = c.args.line in
    let m = c.args.found in
    let v = match_value (wanted_of c.args.self.now).rules m in
    let text = slice_range line.bytes.now m.start m.end in
    written_value _ _ _ c.args.self.now.task.labels c.args.name.now line.number (line.start + m.start) v c.wanted_value-value.result.now
    text c.wanted_value-value.ensures c.write_entry.ensures
