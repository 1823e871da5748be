-- The bits of the case are set in three bytes of the four.
use Rattle.std.proofs.Common.{ap, ◌∙◌, arith}
use Rattle.std.specs.Prelude.{bit_or}
use Rattle.daachorse_prefilter.proofs.BucketFolds.{joined}
use Rattle.daachorse_prefilter.proofs.buckets.slots.slot.Goals as goal

pub returns-clause-is : goal.returns-clause-is
returns-clause-is c = λ a b e d ha hb he is. (let n = ap (λ m. bit_or m 2105376) is ∙ joined a b e d ha hb he in omega arith)
