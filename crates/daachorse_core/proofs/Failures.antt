-- Where a step fails, nothing is promised of a result.
use Rattle.std.proofs.lemmas.Result.{IfOk-from_err}

pub ruleset failures = (IfOk-from_err)
