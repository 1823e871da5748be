-- The line with a match at the front of the rest stands behind those so far.
use Rattle.std.proofs.Common.{◌+◌, true, drop, subst}
use Rattle.std.proofs.lemmas.List.{take_rest}
use Rattle.daacgrep_command.specs.Ahead.{BeginsWithLine, IsFront}
use Rattle.daacgrep_command.specs.Sought.{sought_of}
use Rattle.daacgrep_command.proofs.Fronts.{line_alone, lines_fit, lines_then}
use Rattle.daacgrep_command.proofs.ahead.clear_lines.Goals as goal

pub loop-skip-preserved : goal.loop-skip-preserved
loop-skip-preserved g c =
    let s = sought_of c.args.searcher.now in
    let mark = c.args.mark in
    let text = c.args.text.now in
    let l = c.loop-skip in
    let end = c.in-Some.end in
    let rest = drop l.skip text in
    let front = subst (λ t. IsFront s mark t c.read_front-front.result) (take_rest text l.skip) c.read_front-front.ensures in
    let found = rw c.in-Some.is at front.found in
    let line = subst (λ n. BeginsWithLine s mark true c.in-Some.field-0-0 end (drop n rest)) c.if-front-eq0.true found in
    let joined = lines_then s mark true l.invariant.lines l.skip 1 end text l.invariant.skipped (line_alone s mark true c.in-Some.field-0-0 end rest line) in
    record { within = lines_fit s mark true (l.invariant.lines + 1) (l.skip + end) text joined; lines = l.invariant.lines + 1; skipped = joined }
