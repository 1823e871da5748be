-- A match more was written, or none is left.
use Rattle.std.proofs.Common.{◌++◌, ◌∷◌, [], sym, ap, ◌∙◌, append_assoc}
use Rattle.std.proofs.lemmas.Result.{err_from_is_err_and}
use Rattle.std.specs.List.{flat_map}
use Rattle.daacgrep_command.specs.Jobs.{wanted_of}
use Rattle.daacgrep_command.specs.Lines.{seen}
use Rattle.daacgrep_command.specs.Printed.{match_text}
use Rattle.daacgrep_command.proofs.Selected.{match_fits, text_next, text_sent, text_whole}
use Rattle.daacgrep_command.proofs.Writing.{fails_after, sent_none, sent_then, sent_whole, written_all}
use Rattle.daacgrep_command.proofs.search.Job.write_matches.Goals as goal

pub loop-found-init : goal.loop-found-init
loop-found-init g c =
    let j = wanted_of c.args.self.now in
    let begins = c.into_iter-found-iterator.ensures.into_iter_gives ∙ c.matches-found-items.ensures in
    record {
      sent = [];
      is = ap (flat_map (match_text j.rules j.task.labels c.args.name.now (seen c.args.line))) (sym begins);
      before = [];
      parts = sym begins;
      written = sent_none _;
    }

pub write_match-requires-clause-ordered : goal.write_match-requires-clause-ordered
write_match-requires-clause-ordered g c =
    let l = c.loop-found in
    let parts = l.invariant.parts ∙ ap (λ ms. l.invariant.before ++ ms) c.in-Some.ensures.steps in
    (match_fits (wanted_of c.args.self.now).sought c.args.line.bytes.now l.invariant.before c.in-Some.found c.next.new.self parts).ordered

pub write_match-requires-clause-within : goal.write_match-requires-clause-within
write_match-requires-clause-within g c =
    let l = c.loop-found in
    let parts = l.invariant.parts ∙ ap (λ ms. l.invariant.before ++ ms) c.in-Some.ensures.steps in
    (match_fits (wanted_of c.args.self.now).sought c.args.line.bytes.now l.invariant.before c.in-Some.found c.next.new.self parts).within

pub returns-in_err-write_match : goal.returns-in_err-write_match
returns-in_err-write_match g c =
    let l = c.loop-found in
    let j = wanted_of c.args.self.now in
    let p = err_from_is_err_and c.from_residual.result c.from_residual.ensures.1 in
    let f = match_text j.rules j.task.labels c.args.name.now (seen c.args.line) in
    let found = c.in-Some.found in
    let e = text_next f _ l.invariant.sent found l.found-iterator c.next.new.self l.invariant.is c.in-Some.ensures.steps in
    rw p.1
    (fails_after _ _ _ _ l.invariant.sent (f found) (flat_map f c.next.new.self) _ e l.invariant.written c.in_err-write_match.ensures)

pub loop-found-preserved : goal.loop-found-preserved
loop-found-preserved g c =
    let l = c.loop-found in
    let j = wanted_of c.args.self.now in
    let f = match_text j.rules j.task.labels c.args.name.now (seen c.args.line) in
    let found = c.in-Some.found in
    record {
      sent = l.invariant.sent ++ f found;
      is = text_sent f _ l.invariant.sent found l.found-iterator c.next.new.self l.invariant.is c.in-Some.ensures.steps;
      before = l.invariant.before ++ found ∷ [];
      parts =
          l.invariant.parts ∙ ap (λ ms. l.invariant.before ++ ms) c.in-Some.ensures.steps
          ∙ sym (append_assoc l.invariant.before (found ∷ []) c.next.new.self);
      written = sent_then _ _ _ l.invariant.sent (f found) l.invariant.written (sent_whole _ _ _ _ c.in_ok-write_match.ensures);
    }

pub returns : goal.returns
returns g c =
    let l = c.loop-found in
    let j = wanted_of c.args.self.now in
    let f = match_text j.rules j.task.labels c.args.name.now (seen c.args.line) in
    let none = c.in-None.ensures.steps.0 in
    written_all _ _ _ l.invariant.sent _ (text_whole f _ l.invariant.sent l.found-iterator l.invariant.is none) l.invariant.written
