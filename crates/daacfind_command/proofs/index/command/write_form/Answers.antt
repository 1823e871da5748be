-- The form of the lines was written, or the cause is that of the write.
use Rattle.std.proofs.Common.{Some}
use Rattle.daacfind_command.specs.Commands.{Tells}
use Rattle.daacfind_command.proofs.IndexLaws.{form_failed}
use Rattle.daacfind_command.proofs.index.command.write_form.Goals as goal

pub returns-in-Ok : goal.returns-in-Ok
returns-in-Ok g c =
    let told : Tells (g.I.Inputs.given c.args.files.now) c.args.patterns.now (Some c.deref.result.now) =
    rw c.deref.ensures.value c.in-Some.ensures.told in
    let written = c.in-Ok.ensures.written in
    (written.0, record { patterns = c.deref.result.now; has_patterns = told; form = written.1 }, written.2, c.in-Ok.ensures.unfailed)

pub returns : goal.returns
returns g c =
    let told : Tells (g.I.Inputs.given c.args.files.now) c.args.patterns.now (Some c.deref.result.now) =
    rw c.deref.ensures.value c.in-Some.ensures.told in
    let e = c.in-Err.ensures in
    form_failed _ _ _ _ _ _ _ _ told c.in-Err.error e.refusal e.kind e.unwritten e.untried e.beginning e.failed
