-- A document that is counted leaves as many counts as there are states.
use Rattle.std.proofs.Common.{arith}
use Rattle.std.proofs.lemmas.Grind.{elements}
use Rattle.daachorse_patterns.proofs.corpus.count_all.Goals as goal

pub loop-document-preserved : goal.loop-document-preserved
loop-document-preserved g c = grind (arith, elements)
