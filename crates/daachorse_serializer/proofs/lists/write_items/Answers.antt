-- The form of one item more stands behind the forms of the items before it.
use Rattle.std.proofs.Common.{arith}
use Rattle.std.proofs.lemmas.Grind.{common_steps}
use Rattle.daachorse_serializer.proofs.lists.write_items.Goals as goal

pub returns-in_err-serialize_to_vec-clause-kept : goal.returns-in_err-serialize_to_vec-clause-kept
returns-in_err-serialize_to_vec-clause-kept g c = grind (arith, common_steps)

pub loop-item-preserved : goal.loop-item-preserved
loop-item-preserved g c = grind (arith, common_steps)

pub returns-clause-written : goal.returns-clause-written
returns-clause-written g c = grind (arith, common_steps)
