-- The file was read on, or the search ends.
use Rattle.std.proofs.Common.{◌≡◌, ◌+◌, ◌-◌, ◌<◌, ◌≤◌, ◌⊎◌, ◌&&◌, ◌++◌, Bool, true, false, take, length, nat_lt}
use Rattle.std.proofs.Common.{refl, sym, ap, ◌∙◌, subst, arith}
use Rattle.std.specs.Io.KnownBytes.{Consumes}
use Rattle.std.specs.Prelude.{slice_index}
use Rattle.std.proofs.lemmas.Bool.Decides.{nat_tests}
use Rattle.std.proofs.lemmas.List.{length-take-le}
use Rattle.std.proofs.lemmas.Result.{err_from_is_err_and}
use Rattle.daacgrep_command.specs.FileSystems.{Disk, after_reading}
use Rattle.daacgrep_command.specs.Jobs.{wanted_of}
use Rattle.daacgrep_command.specs.Reading.{IsWithin, asks_for_one}
use Rattle.daacgrep_command.proofs.Marks.{none_before}
use Rattle.daacgrep_command.proofs.Parts.{IsSearchedTo, closed_to, cut_off, done, has_all, has_some, held_more, held_still}
use Rattle.daacgrep_command.proofs.Parts.{passed_on, searched_on, sent_on, settled}
use Rattle.daacgrep_command.proofs.Troubles.{more_result, reads_counted, reads_same, same_result}
use Rattle.daacgrep_command.proofs.Writing.{sent_whole}
use Rattle.daacgrep_command.proofs.search.Job.search_open.Goals as goal

pub returns-then-count-eq0-clause-searched : goal.returns-then-count-eq0-clause-searched
returns-then-count-eq0-clause-searched g c =
    let l = c.loop-window in
    let j = wanted_of c.args.self.now in
    let on = c.in-Ok.ensures.ok in
    let at = held_more j _ l.invariant.before _ _ _ _ l.progress c.in-Ok.ensures.start _ _ _ l.invariant.at on in
    let f = c.finish.ensures in
    done j c.args.name.now _ _ _ _ _ _ at _ _ _ l.invariant.written c.finish.result f.written f.selected false
    (has_all _ _ _ at.read (on.end c.if-count-eq0.true)) f.trouble

pub returns-in_err-progress-in-Ok-clause-searched : goal.returns-in_err-progress-in-Ok-clause-searched
returns-in_err-progress-in-Ok-clause-searched g c =
    let l = c.loop-window in
    let j = wanted_of c.args.self.now in
    let at = held_more j _ l.invariant.before _ _ _ _ l.progress c.in-Ok.ensures.start _ _ _ l.invariant.at c.in-Ok.ensures.ok in
    let p = err_from_is_err_and c.from_residual.result c.from_residual.ensures.1 in
    let fails = c.in_err-progress-in-Ok.ensures.written in
    rw p.1 (cut_off j c.args.name.now _ _ _ _ _ _ at _ _ _ l.invariant.written c.complete_len-len.result _ fails)

pub returns-in-Err-clause-searched : goal.returns-in-Err-clause-searched
returns-in-Err-clause-searched g c =
    let l = c.loop-window in
    let j = wanted_of c.args.self.now in
    let e = c.in-Err.ensures in
    let at = held_still j _ l.invariant.before _ _ _ _ l.progress e.start _ l.invariant.at e.kept in
    let f = c.finish-in-Err.ensures in
    done j c.args.name.now _ _ _ _ _ _ at _ _ _ l.invariant.written c.finish-in-Err.result f.written f.selected true
    (has_some _ _ _ at.read) f.trouble

both_true : (a b : Bool) → (a && b) ≡ true → (a ≡ true) × (b ≡ true)
both_true true true e = (refl, refl)
both_true true false e = cc
both_true false b e = cc

pub returns-clause-searched : goal.returns-clause-searched
returns-clause-searched g c =
    let l = c.loop-window in
    let j = wanted_of c.args.self.now in
    let tests = sym c.is_settled.ensures ∙ c.loop-window-test.false in
    let both = both_true (nat_lt 0 l.progress.selected) (asks_for_one j.task.report) tests in
    let f = c.finish-2.ensures in
    settled j c.args.name.now _ _ _ _ _ _ l.invariant.at _ _ _ l.invariant.written c.finish-2.result f.written f.selected both.1
    (grind (arith, nat_tests, both.0)) f.trouble

pub read_on-requires : goal.read_on-requires
read_on-requires g c = record { passed = c.loop-window.invariant.passed }

pub complete_len-len-requires-clause-none : goal.complete_len-len-requires-clause-none
complete_len-len-requires-clause-none g c =
    let l = c.loop-window in
    let on = c.in-Ok.ensures.ok in
    none_before _ l.window.bytes on.read c.read_on.new.self.bytes _ on.held on.count (rw c.in-Ok.ensures.mark l.invariant.passed)

pub loop-window-preserved : goal.loop-window-preserved
loop-window-preserved g c =
    let l = c.loop-window in
    let j = wanted_of c.args.self.now in
    let left = g.F.FileSystem.left c.args.files.now in
    let rest = g.F.FileSystem.left c.read_on.new.files in
    let before = l.invariant.before in
    let held = c.read_on.new.self.bytes in
    let start = c.read_on.new.self.start in
    let len = c.complete_len-len.result in
    let block = take len held in
    let q = c.in_ok-progress-in-Ok.progress in
    let k = c.in_ok-progress-in-Ok.ensures in
    let at = held_more j left before _ start _ held l.progress c.in-Ok.ensures.start _ rest _ l.invariant.at c.in-Ok.ensures.ok in
    let fits : len ≤ length held = c.complete_len-len.ensures.within in
    let sized = length-take-le len held fits in
    let marked = c.in-Ok.ensures.mark ∙ l.invariant.mark in
    let ended = subst (λ m. (len ≡ 0) ⊎ ((0 < len) × (slice_index held (len - 1) ≡ m))) marked c.complete_len-len.ensures.closed in
    let closed = closed_to j.sought j.task.labels.end len held fits ended in
    let within : IsWithin q (start + length block) = record {
      lines = omega (arith, k.few.lines, sized);
      selected = omega (arith, k.few.selected, sized);
    } in
    let to : IsSearchedTo j (before ++ block) (start + length block) q =
    searched_on j c.args.name.now before start l.progress at.searched block q closed within k.lines k.selected in
    let here = subst (λ n. IsSearchedTo j (before ++ block) n q) (ap (λ n. start + n) sized ∙ sym k.start) to in
    let onward = subst (λ h. Consumes left rest ((before ++ block) ++ h)) (sym k.bytes)
    (subst (Consumes left rest) (sym (passed_on before held len)) at.read) in
    record {
      before = before ++ block;
      at = record { searched = here; read = onward };
      written = sent_on j c.args.name.now before start l.progress at.searched _ _ _ block l.invariant.written
          (sent_whole _ _ _ _ k.written);
      same = c.in-Ok.ensures.counted ∙ l.invariant.same;
      mark = k.mark ∙ marked;
      passed = rw (k.mark, k.bytes) c.complete_len-len.ensures.rest;
    }

-- ---- the files that were read

pub returns-then-count-eq0-clause-reads : goal.returns-then-count-eq0-clause-reads
returns-then-count-eq0-clause-reads g c = reads_same _ _ (c.in-Ok.ensures.counted ∙ c.loop-window.invariant.same)

pub returns-in_err-progress-in-Ok-clause-reads : goal.returns-in_err-progress-in-Ok-clause-reads
returns-in_err-progress-in-Ok-clause-reads g c = reads_same _ _ (c.in-Ok.ensures.counted ∙ c.loop-window.invariant.same)

pub returns-in-Err-clause-reads : goal.returns-in-Err-clause-reads
returns-in-Err-clause-reads g c =
    reads_counted false _ _ (c.in-Err.ensures.counted ∙ ap (after_reading false) c.loop-window.invariant.same)

pub returns-clause-reads : goal.returns-clause-reads
returns-clause-reads g c = reads_same _ _ c.loop-window.invariant.same

pub returns-clause-trouble : goal.returns-clause-trouble
returns-clause-trouble g c =
    same_result c.finish-2.result _ _ (ap (λ (d : Disk). d.failures) c.loop-window.invariant.same) c.finish-2.ensures.trouble

pub returns-then-count-eq0-clause-trouble : goal.returns-then-count-eq0-clause-trouble
returns-then-count-eq0-clause-trouble g c =
    let same = c.in-Ok.ensures.counted ∙ c.loop-window.invariant.same in
    same_result c.finish.result _ _ (ap (λ (d : Disk). d.failures) same) c.finish.ensures.trouble

pub returns-in-Err-clause-trouble : goal.returns-in-Err-clause-trouble
returns-in-Err-clause-trouble g c =
    let more = c.in-Err.ensures.counted ∙ ap (after_reading false) c.loop-window.invariant.same in
    more_result c.finish-in-Err.result _ _ (ap (λ (d : Disk). d.failures) more) c.finish-in-Err.ensures.trouble
