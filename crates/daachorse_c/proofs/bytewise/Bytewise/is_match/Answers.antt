-- Each automaton that may search is the one that is kept.
use Rattle.daachorse_c.proofs.bytewise.Bytewise.is_match.Goals as goal

pub returns-in-Plain : goal.returns-in-Plain
returns-in-Plain c = rw c.in-Plain.is c.is_match.ensures

pub returns-in-Rowed : goal.returns-in-Rowed
returns-in-Rowed c = rw c.in-Rowed.is c.is_match-in-Rowed.ensures
