-- The forms of the parts stand behind one another; where memory is refused, what was written stays behind what stood before.
use Rattle.std.proofs.Common.{arith}
use Rattle.std.proofs.lemmas.Grind.{common_steps}
use Rattle.daachorse_serializer.proofs.ending.write_ending.Goals as goal

pub returns-in_err-serialize_to_vec-2-clause-kept : goal.returns-in_err-serialize_to_vec-2-clause-kept
returns-in_err-serialize_to_vec-2-clause-kept g c = grind (arith, common_steps)

pub returns-in_err-serialize_to_vec-3-clause-kept : goal.returns-in_err-serialize_to_vec-3-clause-kept
returns-in_err-serialize_to_vec-3-clause-kept g c = grind (arith, common_steps)

pub returns-clause-written : goal.returns-clause-written
returns-clause-written g c = grind (arith, common_steps)

pub returns-clause-kept : goal.returns-clause-kept
returns-clause-kept g c = grind (arith, common_steps)
