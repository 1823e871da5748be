-- After the last output, each one was seen to have its parent before it.
use Rattle.std.proofs.Common.{arith}
use Rattle.std.proofs.lemmas.Grind.{elements}
use Rattle.daachorse_checker.proofs.runs.parents_fall.Goals as goal

pub returns : goal.returns
returns g c = grind (arith, elements)
