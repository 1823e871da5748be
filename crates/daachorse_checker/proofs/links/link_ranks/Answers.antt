-- Where memory is refused, nothing is claimed of a list; each rank has its link at its own rank.
use Rattle.std.proofs.Common.{arith}
use Rattle.std.proofs.lemmas.Grind.{elements}
use Rattle.daachorse_checker.proofs.links.link_ranks.Goals as goal

pub link_rank-requires-clause-element : goal.link_rank-requires-clause-element
link_rank-requires-clause-element g c = grind (arith, elements)

pub loop-rank-preserved : goal.loop-rank-preserved
loop-rank-preserved g c = grind (arith, elements)
