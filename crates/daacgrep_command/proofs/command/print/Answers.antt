-- A flush takes nothing, and may fail.
use Rattle.std.proofs.Common.{sym}
use Rattle.std.proofs.lemmas.Result.{err_from_is_err_and}
use Rattle.daacgrep_command.proofs.Writing.{flushed, unflushed}
use Rattle.daacgrep_command.proofs.command.print.Goals as goal

pub returns-in_err-flush-clause-written : goal.returns-in_err-flush-clause-written
returns-in_err-flush-clause-written g c =
    let p = err_from_is_err_and c.from_residual-in_err-flush.result c.from_residual-in_err-flush.ensures.1 in
    let f = c.in_err-flush.ensures in
    rw (p.1, sym c.as_bytes.ensures.value) (unflushed _ _ _ c.as_bytes.result.now _ _ c.in_ok-write.ensures f.taken f.failures)

pub returns-clause-written : goal.returns-clause-written
returns-clause-written g c =
    let f = c.in_ok-flush.ensures in
    rw (sym c.as_bytes.ensures.value) (flushed _ _ _ c.as_bytes.result.now _ _ c.in_ok-write.ensures f.taken f.failures)
