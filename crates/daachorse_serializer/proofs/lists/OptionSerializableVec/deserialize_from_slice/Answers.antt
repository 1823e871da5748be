-- The first byte tells whether a value follows, and what is read behind it is the value that was written.
use Rattle.std.proofs.Common.{arith}
use Rattle.std.proofs.lemmas.Grind.{common_steps}
use Rattle.daachorse_serializer.proofs.lists.OptionSerializableVec.deserialize_from_slice.Goals as goal

pub returns-in_err-value-in-1-clause-given : goal.returns-in_err-value-in-1-clause-given
returns-in_err-value-in-1-clause-given g c = grind (arith, common_steps)

pub returns-in-0-clause-given : goal.returns-in-0-clause-given
returns-in-0-clause-given g c = grind (arith, common_steps)

pub returns-in_ok-value-in-1-clause-given : goal.returns-in_ok-value-in-1-clause-given
returns-in_ok-value-in-1-clause-given g c = grind (arith, common_steps)
