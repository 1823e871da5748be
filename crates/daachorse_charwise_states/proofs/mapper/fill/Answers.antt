-- No code is written before the loop, and where memory is refused, nothing is claimed.
use Rattle.std.proofs.lemmas.Result.{IfOk-from_err}
use Rattle.std.proofs.Common.{arith}
use Rattle.std.proofs.lemmas.Grind.{common_steps}
use Rattle.daachorse_charwise_states.proofs.mapper.fill.Goals as goal

pub returns-in_err-table-clause-len : goal.returns-in_err-table-clause-len
returns-in_err-table-clause-len g c = IfOk-from_err c.from_residual.result _ c.from_residual.ensures.0

pub returns-in_err-table-clause-filled : goal.returns-in_err-table-clause-filled
returns-in_err-table-clause-filled g c = IfOk-from_err c.from_residual.result _ c.from_residual.ensures.0

pub loop-code-init : goal.loop-code-init
loop-code-init g c = grind (arith, common_steps)
