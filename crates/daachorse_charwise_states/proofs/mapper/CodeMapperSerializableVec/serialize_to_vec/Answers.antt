-- What was written of the table is the form of its codes.
use Rattle.std.proofs.lemmas.Result.{IfOk-from_err}
use Rattle.std.proofs.Common.{arith}
use Rattle.std.proofs.lemmas.Grind.{common_steps}
use Rattle.daachorse_charwise_states.proofs.mapper.CodeMapperSerializableVec.serialize_to_vec.Goals as goal

pub returns-in_err-serialize_to_vec-clause-written : goal.returns-in_err-serialize_to_vec-clause-written
returns-in_err-serialize_to_vec-clause-written g c = IfOk-from_err c.from_residual.result _ c.from_residual.ensures.0

pub returns-clause-written : goal.returns-clause-written
returns-clause-written g c = grind (arith, common_steps)

pub returns-clause-kept : goal.returns-clause-kept
returns-clause-kept g c = grind (arith, common_steps)
