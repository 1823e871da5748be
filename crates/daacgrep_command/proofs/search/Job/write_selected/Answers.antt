-- A selected line more was written, or none is left.
use Rattle.std.proofs.Common.{Bool, [], ◌++◌, length, sym, ap, ◌∙◌, zero-add, arith}
use Rattle.std.proofs.lemmas.Result.{err_from_is_err_and}
use Rattle.std.proofs.lemmas.List.Sums.{count_by-le-length}
use Rattle.std.specs.List.{flat_map}
use Rattle.daacgrep_command.specs.Jobs.{wanted_of}
use Rattle.daacgrep_command.specs.Lines.{TextLine, lines_of_part, numbered, seen}
use Rattle.daacgrep_command.specs.Printed.{is_selected, line_text}
use Rattle.daacgrep_command.proofs.Passing.{counted_filtered, lines_written}
use Rattle.daacgrep_command.proofs.Selected.{lines_few, text_next, text_sent}
use Rattle.daacgrep_command.proofs.Writing.{fails_after, sent_none, sent_then, sent_whole}
use Rattle.daacgrep_command.proofs.search.Job.write_selected.Goals as goal

pub loop-line-init : goal.loop-line-init
loop-line-init g c =
    let begins = c.into_iter-line-iterator.ensures.into_iter_gives ∙ c.new-line-items.ensures in
    let j = wanted_of c.args.self.now in
    let part = c.args.part in
    let lines = lines_of_part j.task.labels.end part in
    let selects : TextLine → Bool = λ line. is_selected j.sought j.task.inverts line.bytes in
    let count = counted_filtered (numbered j.task.labels.numbers) selects lines ∙ ap length (sym begins) in
    record {
      sent = [];
      is = lines_written j c.args.name.now lines ∙ ap (flat_map (line_text j c.args.name.now j.task.report)) (sym begins);
      counted = count ∙ sym (zero-add _);
      few = omega (
        arith,
        count,
        count_by-le-length selects lines,
        lines_few j.task.labels.end part.before part.start part.bytes.now,
      );
      written = sent_none _;
    }

pub returns-in_err-write_line-clause-written : goal.returns-in_err-write_line-clause-written
returns-in_err-write_line-clause-written g c =
    let l = c.loop-line in
    let j = wanted_of c.args.self.now in
    let p = err_from_is_err_and c.from_residual.result c.from_residual.ensures.1 in
    let f = line_text j c.args.name.now j.task.report in
    let line = seen c.in-Some.line in
    let e = text_next f _ l.invariant.sent line l.line-iterator c.next.new.self l.invariant.is c.in-Some.ensures.steps in
    rw p.1
    (fails_after _ _ _ _ l.invariant.sent (f line) (flat_map f c.next.new.self) _ e l.invariant.written c.in_err-write_line.ensures)

pub loop-line-preserved : goal.loop-line-preserved
loop-line-preserved g c =
    let l = c.loop-line in
    let j = wanted_of c.args.self.now in
    let f = line_text j c.args.name.now j.task.report in
    let line = seen c.in-Some.line in
    record {
      sent = l.invariant.sent ++ f line;
      is = text_sent f _ l.invariant.sent line l.line-iterator c.next.new.self l.invariant.is c.in-Some.ensures.steps;
      counted = omega (arith, l.invariant.counted, ap length c.in-Some.ensures.steps);
      few = omega (arith, l.invariant.few, ap length c.in-Some.ensures.steps);
      written = sent_then _ _ _ l.invariant.sent (f line) l.invariant.written (sent_whole _ _ _ _ c.in_ok-write_line.ensures);
    }
