-- Of either list the walk is the listing.
use Rattle.daachorse_bytewise_states.proofs.states.States.pattern_iter.Goals.{then-is_leftmost+in_ok-pattern_walk, else-is_leftmost+in_ok-pattern_walk-2}
use Rattle.daachorse_bytewise_states.proofs.states.States.pattern_iter.Goals as goal

pub returns-clause-ok : goal.returns-clause-ok
returns-clause-ok g c =
    elim c.if-is_leftmost.branch [
      | then-is_leftmost+in_ok-pattern_walk w ↦ rw w.walk-is w.in_ok-pattern_walk.ensures.ok
      | else-is_leftmost+in_ok-pattern_walk-2 w ↦ rw w.walk-is w.in_ok-pattern_walk-2.ensures.ok
    ]
