-- The part is the front of the window.
use Rattle.std.proofs.Common.{ℕ, List, take, ap, ◌∙◌}
use Rattle.std.proofs.lemmas.Result.{err_from_is_err_and}
use Rattle.daacgrep_command.specs.Jobs.{wanted_of}
use Rattle.daacgrep_command.specs.Lines.{lines_from, pieces_of}
use Rattle.daacgrep_command.specs.Printed.{lines_text}
use Rattle.daacgrep_command.proofs.Writing.{fails_so}
use Rattle.daacgrep_command.proofs.search.Job.search_on.Goals as goal

pub returns-in_err-selected-clause-written : goal.returns-in_err-selected-clause-written
returns-in_err-selected-clause-written g c =
    let j = wanted_of c.args.self.now in
    let p = err_from_is_err_and c.from_residual.result c.from_residual.ensures.1 in
    let text : ℕ → List ℕ → List ℕ = λ start bytes.
    lines_text j c.args.name.now (lines_from c.args.progress.lines start (pieces_of j.task.labels.end (take c.args.len bytes))) in
    let same = ap (λ n. text n c.bytes.result.now) c.start.ensures.start ∙ ap (text c.args.window.now.start) c.bytes.ensures in
    rw p.1 (fails_so _ _ _ _ _ c.in_err-selected.ensures.written same)
