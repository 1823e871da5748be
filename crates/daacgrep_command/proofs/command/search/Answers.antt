-- The files were searched as it was asked for; a flush takes nothing.
use Rattle.std.proofs.lemmas.Result.{err_from_is_err_and}
use Rattle.daacgrep_command.specs.Jobs.{wanted_of}
use Rattle.daacgrep_command.proofs.Asking.{search_done, search_failed, search_unflushed}
use Rattle.daacgrep_command.proofs.Troubles.{trouble_status}
use Rattle.daacgrep_command.proofs.command.search.Goals as goal

pub returns-in_err-outcome-clause-searched : goal.returns-in_err-outcome-clause-searched
returns-in_err-outcome-clause-searched g c =
    let given = (g.F.FileSystem.sees c.args.files.now).given in
    let p = err_from_is_err_and c.from_residual.result c.from_residual.ensures.1 in
    rw p.1
    (search_failed (wanted_of c.args.job.now) c.args.options.now given _ c.named.ensures _ _ _ _ _ _ c.in_err-outcome.ensures.searched)

pub returns-in_err-flush-clause-searched : goal.returns-in_err-flush-clause-searched
returns-in_err-flush-clause-searched g c =
    let given = (g.F.FileSystem.sees c.args.files.now).given in
    let p = err_from_is_err_and c.from_residual-in_err-flush.result c.from_residual-in_err-flush.ensures.1 in
    let f = c.in_err-flush.ensures in
    rw p.1
    (search_unflushed (wanted_of c.args.job.now) c.args.options.now given _ c.named.ensures _ _ _ _ _ c.in_ok-outcome.outcome _
    c.in_ok-outcome.ensures.searched f.taken f.failures)

pub returns-clause-searched : goal.returns-clause-searched
returns-clause-searched g c =
    let given = (g.F.FileSystem.sees c.args.files.now).given in
    let f = c.in_ok-flush.ensures in
    search_done (wanted_of c.args.job.now) c.args.options.now given _ c.named.ensures _ _ _ _ _ c.in_ok-outcome.outcome c.has.result _
    c.in_ok-outcome.ensures.searched f.taken f.failures c.has.ensures c.status.ensures

pub returns-clause-trouble : goal.returns-clause-trouble
returns-clause-trouble g c two =
    trouble_status c.has.result c.in_ok-outcome.outcome c.status.result _ _ c.status.ensures c.in_ok-outcome.ensures.trouble two
