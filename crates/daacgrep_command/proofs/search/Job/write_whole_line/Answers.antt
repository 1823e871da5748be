-- The value is that of the first match, where it is wanted.
use Rattle.daacgrep_command.specs.Jobs.{wanted_of}
use Rattle.daacgrep_command.specs.Rules.{first_value}
use Rattle.daacgrep_command.specs.Sought.{matches_in}
use Rattle.daacgrep_command.proofs.Writing.{written_value}
use Rattle.daacgrep_command.proofs.search.Job.write_whole_line.Goals as goal

pub returns : goal.returns
returns g c =
    let line = c.args.line in
    let j = wanted_of c.args.self.now in
    let v = first_value j.rules (matches_in j.sought line.bytes.now) in
    written_value _ _ _ j.task.labels c.args.name.now line.number line.start v c.line_value-value.result.now line.bytes.now
    c.line_value-value.ensures c.write_entry.ensures
