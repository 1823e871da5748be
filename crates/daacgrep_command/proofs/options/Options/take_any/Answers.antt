-- Where an allocation fails nothing else is told.
use Rattle.std.proofs.lemmas.Result.{err_from_is_err_and}
use Rattle.daacgrep_command.proofs.options.Options.take_any.Goals as goal

pub returns-in_err-push-in-Name-clause-takes : goal.returns-in_err-push-in-Name-clause-takes
returns-in_err-push-in-Name-clause-takes g c = let p = err_from_is_err_and c.from_residual.result c.from_residual.ensures.1 in rw (p.1, p.2) (record { known = tt; taken = tt; cause = tt })
