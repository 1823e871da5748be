-- A file was searched, or could not be read.
use Rattle.std.proofs.Common.{cond, [], ◌∷◌, refl, ap, sym, subst, ◌∙◌}
use Rattle.std.proofs.lemmas.Result.{err_from_is_err_and}
use Rattle.daacgrep_command.specs.FileSystems.{Disk, IsTrouble, after_reading}
use Rattle.daacgrep_command.specs.Jobs.{wanted_of}
use Rattle.daacgrep_command.specs.Messages.{Sends}
use Rattle.daacgrep_command.specs.Messages.Notice.{NotRead}
use Rattle.daacgrep_command.proofs.Asking.{one_failed, one_searched, one_unread}
use Rattle.daacgrep_command.proofs.Reports.{sends_none}
use Rattle.daacgrep_command.proofs.Troubles.{one_more, reads_counted, reads_then, trouble_more}
use Rattle.daacgrep_command.proofs.search.Job.search_named.Goals as goal

pub returns-then-not-open-clause-searched : goal.returns-then-not-open-clause-searched
returns-then-not-open-clause-searched g c =
    let given = (g.F.FileSystem.sees c.args.files.now).given in
    one_unread (wanted_of c.args.self.now) given _ _ _ c.args.name.now (c.open.ensures.unread c.if-not-open.true) c.send.ensures

pub returns-in_err-outcome-clause-searched : goal.returns-in_err-outcome-clause-searched
returns-in_err-outcome-clause-searched g c =
    let given = (g.F.FileSystem.sees c.args.files.now).given in
    let p = err_from_is_err_and c.from_residual.result c.from_residual.ensures.1 in
    let opened = c.open.ensures.opened c.if-not-open.false in
    rw p.1
    (one_failed (wanted_of c.args.self.now) given _ _ _ _ c.args.name.now c.shown.result.now (g.F.FileSystem.left c.open.new.self) opened
    c.shown.ensures _ _ c.in_err-outcome.ensures.searched)

pub returns-then-outcome-clause-searched : goal.returns-then-outcome-clause-searched
returns-then-outcome-clause-searched g c =
    let given = (g.F.FileSystem.sees c.args.files.now).given in
    let old = g.M.Messages.sent c.args.err.now in
    let new = g.M.Messages.sent c.send-then-outcome.new.self in
    one_searched (wanted_of c.args.self.now) given _ _ old new c.args.name.now c.shown.result.now (g.F.FileSystem.left c.open.new.self)
    (c.open.ensures.opened c.if-not-open.false) c.shown.ensures c.in_ok-outcome.outcome c.in_ok-outcome.ensures.searched
    (subst (λ b. Sends old new (cond b (NotRead c.args.name.now ∷ []) [])) (sym c.if-outcome.true) c.send-then-outcome.ensures)

pub returns-else-outcome-clause-searched : goal.returns-else-outcome-clause-searched
returns-else-outcome-clause-searched g c =
    let given = (g.F.FileSystem.sees c.args.files.now).given in
    let old = g.M.Messages.sent c.args.err.now in
    one_searched (wanted_of c.args.self.now) given _ _ old old c.args.name.now c.shown.result.now (g.F.FileSystem.left c.open.new.self)
    (c.open.ensures.opened c.if-not-open.false) c.shown.ensures c.in_ok-outcome.outcome c.in_ok-outcome.ensures.searched
    (subst (λ b. Sends old old (cond b (NotRead c.args.name.now ∷ []) [])) (sym c.if-outcome.false) (sends_none old))

-- ---- the files that were read

pub returns-then-not-open-clause-reads : goal.returns-then-not-open-clause-reads
returns-then-not-open-clause-reads g c = reads_counted c.open.result _ _ c.open.ensures.counted

pub returns-in_err-outcome-clause-reads : goal.returns-in_err-outcome-clause-reads
returns-in_err-outcome-clause-reads g c =
    reads_then _ _ _ (reads_counted c.open.result _ _ c.open.ensures.counted) c.in_err-outcome.ensures.reads

pub returns-then-outcome-clause-reads : goal.returns-then-outcome-clause-reads
returns-then-outcome-clause-reads g c =
    reads_then _ _ _ (reads_counted c.open.result _ _ c.open.ensures.counted) c.in_ok-outcome.ensures.reads

pub returns-else-outcome-clause-reads : goal.returns-else-outcome-clause-reads
returns-else-outcome-clause-reads g c =
    reads_then _ _ _ (reads_counted c.open.result _ _ c.open.ensures.counted) c.in_ok-outcome.ensures.reads

pub returns-then-not-open-clause-trouble : goal.returns-then-not-open-clause-trouble
returns-then-not-open-clause-trouble g c =
    trouble_more _ _ _ refl (one_more c.open.result _ _ c.open.ensures.counted c.if-not-open.true)

pub returns-then-outcome-clause-trouble : goal.returns-then-outcome-clause-trouble
returns-then-outcome-clause-trouble g c =
    let sees = g.F.FileSystem.sees c.args.files.now in
    let same = c.open.ensures.counted ∙ ap (λ b. after_reading b sees) c.if-not-open.false in
    let after = (g.F.FileSystem.sees c.search_open.new.files).failures in
    subst (λ (d : Disk). IsTrouble c.in_ok-outcome.outcome.trouble d.failures after) same c.in_ok-outcome.ensures.trouble

pub returns-else-outcome-clause-trouble : goal.returns-else-outcome-clause-trouble
returns-else-outcome-clause-trouble g c =
    let sees = g.F.FileSystem.sees c.args.files.now in
    let same = c.open.ensures.counted ∙ ap (λ b. after_reading b sees) c.if-not-open.false in
    let after = (g.F.FileSystem.sees c.search_open.new.files).failures in
    subst (λ (d : Disk). IsTrouble c.in_ok-outcome.outcome.trouble d.failures after) same c.in_ok-outcome.ensures.trouble
