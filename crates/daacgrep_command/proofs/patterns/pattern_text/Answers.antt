-- The patterns that were given come first, and those of files after them.
use Rattle.daacgrep_command.proofs.Asking.{gives_patterns}
use Rattle.daacgrep_command.proofs.patterns.pattern_text.Goals as goal

pub returns-clause-ok : goal.returns-clause-ok
returns-clause-ok g c =
    let given = (g.F.FileSystem.sees c.args.files.now).given in
    gives_patterns c.args.options.now given _ _ _ _ _ c.new-text.ensures.items c.patterns.ensures c.pattern_files.ensures
    c.in_ok-add_patterns.ensures c.in_ok-add_files.ensures.ok
