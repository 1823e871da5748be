-- The bytes begin with the automaton that was read.
use Rattle.daacgrep_command.proofs.automaton.read.Goals as goal

pub returns-in-Ok-clause-ok : goal.returns-in-Ok-clause-ok
returns-in-Ok-clause-ok c = (c.in-Ok._rest.now, c.in-Ok.ensures.given)
