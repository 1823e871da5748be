-- The command ends as its attempt does.
use Rattle.daacfind_command.proofs.IndexLaws.{of_attempt}
use Rattle.daacfind_command.proofs.index.command.command.Goals as goal

pub returns-clause-ends : goal.returns-clause-ends
returns-clause-ends g c = rw c.status.ensures (of_attempt _ _ _ _ _ _ c.attempt-attempt.result c.attempt-attempt.ensures.ends)
