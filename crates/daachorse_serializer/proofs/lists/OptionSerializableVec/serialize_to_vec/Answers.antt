-- The first byte tells whether a value follows, and its form stands behind it.
use Rattle.std.proofs.Common.{arith}
use Rattle.std.proofs.lemmas.Grind.{common_steps}
use Rattle.daachorse_serializer.proofs.lists.OptionSerializableVec.serialize_to_vec.Goals as goal

pub returns-in_ok-push-in-Some-clause-written : goal.returns-in_ok-push-in-Some-clause-written
returns-in_ok-push-in-Some-clause-written g c = grind (arith, common_steps)

pub returns-in_ok-push-in-Some-clause-kept : goal.returns-in_ok-push-in-Some-clause-kept
returns-in_ok-push-in-Some-clause-kept g c = grind (arith, common_steps)
