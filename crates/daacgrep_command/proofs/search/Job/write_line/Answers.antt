-- The report is of lines.
use Rattle.daacgrep_command.proofs.search.Job.write_line.Goals as goal

pub returns-in-Lines : goal.returns-in-Lines
returns-in-Lines g c = rw c.in-Lines.is c.write_whole_line.ensures
