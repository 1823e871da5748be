-- The last message is the error.
use Rattle.std.proofs.Common.{inl, inr, refl}
use Rattle.daacgrep_command.proofs.Reports.{last_sent}
use Rattle.daacgrep_command.proofs.command.command.Goals as goal

pub returns-in-Ok-clause-ends : goal.returns-in-Ok-clause-ends
returns-in-Ok-clause-ends g c = inl c.in-Ok.ensures.ends

pub returns-in-Err-clause-ends : goal.returns-in-Err-clause-ends
returns-in-Err-clause-ends g c = inr (refl, (c.in-Err.error, last_sent _ _ _ c.send.ensures, c.in-Err.ensures.ends))
