-- The text of the root is empty, and so is what was read since, so the bounds of the turns stay.
use Rattle.std.proofs.Common.{arith}
use Rattle.std.proofs.lemmas.Grind.{common_steps}
use Rattle.daachorse_search.proofs.walk.Walk.restart.Goals as goal

pub invariant_of-self : goal.invariant_of-self
invariant_of-self g c = grind (arith, common_steps)
