-- At the root nothing was read and no turn was taken, which is how each walk begins.
use Rattle.std.proofs.Common.{arith}
use Rattle.std.proofs.lemmas.Grind.{common_steps}
use Rattle.daachorse_search.proofs.walk.Walk.begin_again.Goals as goal

pub invariant_of-self : goal.invariant_of-self
invariant_of-self g c = grind (arith, common_steps)
