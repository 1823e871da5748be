-- Each document is copied behind those before it.
use Rattle.std.proofs.Common.{arith}
use Rattle.std.proofs.lemmas.Grind.{common_steps}
use Rattle.daachorse_patterns.proofs.corpus.Corpus.copy_of.Goals as goal

pub loop-document-preserved : goal.loop-document-preserved
loop-document-preserved g c = grind (arith, common_steps)

pub returns-clause-ok : goal.returns-clause-ok
returns-clause-ok g c = grind (arith, common_steps)
