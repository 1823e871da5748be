-- What the automaton finds was written, or the cause is that of the run.
use Rattle.std.proofs.Common.{Some}
use Rattle.daacfind_command.specs.Commands.{Tells}
use Rattle.daacfind_command.proofs.IndexLaws.{matches_failed}
use Rattle.daacfind_command.proofs.index.command.write_matches.Goals as goal

pub returns-in-Ok : goal.returns-in-Ok
returns-in-Ok g c =
    let given = g.I.Inputs.given c.args.files.now in
    let has_form : Tells given c.args.automaton.now (Some c.deref.result.now) = rw c.deref.ensures.value c.in-Some.ensures.told in
    let has_haystack : Tells given c.args.haystack.now (Some c.deref-2.result.now) =
    rw c.deref-2.ensures.value (rw c.read.ensures.same at c.in-Some-read.ensures.told) in
    let written = c.in-Ok.ensures.written in (
      written.0,
      record {
        automaton = c.deref.result.now;
        haystack = c.deref-2.result.now;
        has_automaton = has_form;
        has_haystack = has_haystack;
        found = written.1;
      },
      written.2,
      c.in-Ok.ensures.unfailed,
    )

pub returns : goal.returns
returns g c =
    let given = g.I.Inputs.given c.args.files.now in
    let has_form : Tells given c.args.automaton.now (Some c.deref.result.now) = rw c.deref.ensures.value c.in-Some.ensures.told in
    let has_haystack : Tells given c.args.haystack.now (Some c.deref-2.result.now) =
    rw c.deref-2.ensures.value (rw c.read.ensures.same at c.in-Some-read.ensures.told) in
    let e = c.in-Err.ensures in
    matches_failed _ _ _ _ _ _ c.args.automaton c.args.haystack _ _ has_form has_haystack c.in-Err.error e.invalid e.cause e.kind e.unwritten e.untried
    e.beginning e.failed
