-- A run that failed ends as its error says.
use Rattle.std.proofs.Common.{Some}
use Rattle.daacfind_command.specs.Commands.{Tells, words_of}
use Rattle.daacfind_command.proofs.FindLaws.{run_cause, run_failed}
use Rattle.daacfind_command.proofs.command.attempt.Goals as goal

pub returns-clause-ends : goal.returns-clause-ends
returns-clause-ends g c =
    let given = g.I.Inputs.given c.args.files.now in
    let has_patterns : Tells given c.in-Some.patterns.now (Some c.deref.result.now) =
    rw c.deref.ensures.value c.in-Some-read.ensures.told in
    let has_haystack : Tells given c.in-Some.haystack.now (Some c.deref-2.result.now) =
    rw c.deref-2.ensures.value (rw c.read.ensures.same at c.in-Some-read-2.ensures.told) in
    let e = c.in-Err.ensures in
    run_failed (words_of c.args.args.now) given _ _ _ _ _ c.in-Some.ensures.asked has_patterns has_haystack _ _ _ _ c.in-Err.error
    e.refusal e.unwritten e.untried e.beginning e.failed

pub returns-clause-cause : goal.returns-clause-cause
returns-clause-cause g c =
    let given = g.I.Inputs.given c.args.files.now in
    let has_patterns : Tells given c.in-Some.patterns.now (Some c.deref.result.now) =
    rw c.deref.ensures.value c.in-Some-read.ensures.told in
    let has_haystack : Tells given c.in-Some.haystack.now (Some c.deref-2.result.now) =
    rw c.deref-2.ensures.value (rw c.read.ensures.same at c.in-Some-read-2.ensures.told) in
    run_cause (words_of c.args.args.now) given _ _ _ _ _ c.in-Some.ensures.asked has_patterns has_haystack c.in-Err.error
    c.in-Err.ensures.refusal
