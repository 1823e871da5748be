-- The bytes that are held are the last line.
use Rattle.std.proofs.Common.{ℕ, ◌+◌, List, ◌++◌, length, take, ap, ◌∙◌, arith}
use Rattle.std.proofs.lemmas.List.{take_all}
use Rattle.std.proofs.lemmas.Result.{err_from_is_err_and}
use Rattle.daacgrep_command.specs.declared.reading.Progress.{Progress}
use Rattle.daacgrep_command.specs.Jobs.{wanted_of}
use Rattle.daacgrep_command.specs.Lines.{lines_from, pieces_of}
use Rattle.daacgrep_command.specs.Printed.{end_of, lines_text, selected_count}
use Rattle.daacgrep_command.proofs.Writing.{fails_so, then_more, then_none}
use Rattle.daacgrep_command.proofs.search.Job.finish.Goals as goal

pub returns-in_err-last-clause-written : goal.returns-in_err-last-clause-written
returns-in_err-last-clause-written g c =
    let j = wanted_of c.args.self.now in
    let q = c.args.progress in
    let p = err_from_is_err_and c.from_residual.result c.from_residual.ensures.1 in
    let held = c.args.window.now.bytes in
    let start = c.args.window.now.start in
    let mark = j.task.labels.end in
    let all = take_all (length c.bytes-len.result.now) held (omega (arith, ap length c.bytes-len.ensures)) in
    let text : List ℕ → List ℕ = λ bytes. lines_text j c.args.name.now (lines_from q.lines start (pieces_of mark bytes)) in
    let count = q.selected + selected_count j.sought j.task.inverts (lines_from q.lines start (pieces_of mark held)) in
    let more = end_of j.task.report j.task.labels c.args.name.now count in
    rw p.1 (fails_so {T = ℕ} _ _ _ _ _ (then_none _ _ _ more _ c.in_err-last.ensures.written) (ap (λ t. text t ++ more) all))

pub returns-in_err-write_end-clause-written : goal.returns-in_err-write_end-clause-written
returns-in_err-write_end-clause-written g c =
    let j = wanted_of c.args.self.now in
    let q = c.args.progress in
    let p = err_from_is_err_and c.from_residual-in_err-write_end.result c.from_residual-in_err-write_end.ensures.1 in
    let held = c.args.window.now.bytes in
    let start = c.args.window.now.start in
    let mark = j.task.labels.end in
    let len = length c.bytes-len.result.now in
    let all = take_all len held (omega (arith, ap length c.bytes-len.ensures)) in
    let text : List ℕ → List ℕ = λ bytes. lines_text j c.args.name.now (lines_from q.lines start (pieces_of mark bytes)) in
    let count : List ℕ → ℕ = λ bytes.
    q.selected + selected_count j.sought j.task.inverts (lines_from q.lines start (pieces_of mark bytes)) in
    let end : ℕ → List ℕ = λ n. end_of j.task.report j.task.labels c.args.name.now n in
    let v = c.in_ok-last.ensures.written in
    let w = c.in_err-write_end.ensures in
    rw p.1 (fails_so _ _ _ _ _
    (then_more {T = Progress} _ _ _ _ _ c.in_ok-last.last _
    (record { whole = v.whole; unfailed = v.unfailed; beginning = v.beginning; failed = v.failed }) w)
    (ap (λ n. text (take len held) ++ end n) c.in_ok-last.ensures.selected ∙ ap (λ t. text t ++ end (count t)) all))
