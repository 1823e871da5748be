-- Where an allocation fails nothing else is told.
use Rattle.std.proofs.lemmas.Result.{err_from_is_err_and}
use Rattle.daacgrep_command.proofs.options.Options.take.Goals as goal

pub returns-in_err-push-in-Pattern-clause-takes : goal.returns-in_err-push-in-Pattern-clause-takes
returns-in_err-push-in-Pattern-clause-takes g c = let p = err_from_is_err_and c.from_residual.result c.from_residual.ensures.1 in rw (p.1, p.2) (record { known = tt; taken = tt; cause = tt })

pub returns-in_err-push-in-PatternFile-clause-takes : goal.returns-in_err-push-in-PatternFile-clause-takes
returns-in_err-push-in-PatternFile-clause-takes g c = let p = err_from_is_err_and c.from_residual-in_err-push-in-PatternFile.result c.from_residual-in_err-push-in-PatternFile.ensures.1 in rw (p.1, p.2) (record { known = tt; taken = tt; cause = tt })

pub returns-in_err-push-in-File-clause-takes : goal.returns-in_err-push-in-File-clause-takes
returns-in_err-push-in-File-clause-takes g c = let p = err_from_is_err_and c.from_residual-in_err-push-in-File.result c.from_residual-in_err-push-in-File.ensures.1 in rw (p.1, p.2) (record { known = tt; taken = tt; cause = tt })

pub returns-in_err-push-in-Save-clause-takes : goal.returns-in_err-push-in-Save-clause-takes
returns-in_err-push-in-Save-clause-takes g c = let p = err_from_is_err_and c.from_residual-in_err-push-in-Save.result c.from_residual-in_err-push-in-Save.ensures.1 in rw (p.1, p.2) (record { known = tt; taken = tt; cause = tt })

pub returns-in_err-push-in-Load-clause-takes : goal.returns-in_err-push-in-Load-clause-takes
returns-in_err-push-in-Load-clause-takes g c = let p = err_from_is_err_and c.from_residual-in_err-push-in-Load.result c.from_residual-in_err-push-in-Load.ensures.1 in rw (p.1, p.2) (record { known = tt; taken = tt; cause = tt })
