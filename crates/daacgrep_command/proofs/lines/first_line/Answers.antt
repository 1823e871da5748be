-- The place of the first line feed is the length of the first line.
use Rattle.daacgrep_command.proofs.Cuts.{place_found, place_missing}
use Rattle.daacgrep_command.proofs.lines.first_line.Goals as goal

pub returns-in-Some-clause-len : goal.returns-in-Some-clause-len
returns-in-Some-clause-len c = place_found _ c.args.text.now _ c.in-Some.ensures.place

pub returns-in-None-clause-len : goal.returns-in-None-clause-len
returns-in-None-clause-len c = place_missing _ c.args.text.now c.in-None.ensures.place
