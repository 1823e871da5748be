-- Each match adds its line.
use Rattle.std.proofs.Common.{◌≡◌, List, ℕ, ◌-◌, take, drop, length, ap, sym, subst, ◌∙◌}
use Rattle.std.proofs.lemmas.List.{take_rest}
use Rattle.std.proofs.lemmas.Result.{err_from_is_err_and}
use Rattle.daachorse.specs.Replaced.{AppendsBeginning}
use Rattle.daachorse.proofs.Sending.{AppendsBeginning-more}
use Rattle.daacfind_command.proofs.Gives.{text_whole, text_goes_on}
use Rattle.daacfind_command.proofs.run.write_matches.Goals as goal

line_of : (l : List ℕ) (start : ℕ) → length l ≡ 53 → take (53 - start) (drop start l) ≡ drop start l
line_of l start e = ap (λ n. take (n - start) (drop start l)) (sym e) ∙ take_rest l start

pub returns-in_err-write_whole-clause-beginning : goal.returns-in_err-write_whole-clause-beginning
returns-in_err-write_whole-clause-beginning g c =
    let p = err_from_is_err_and c.from_residual.result c.from_residual.ensures.1 in
    rw p.1 (λ all y.
    let started = c.into_iter-found-iterator.ensures.into_iter_gives in
    let text = text_goes_on g.I.Iterator.next_gives _ _ _ _ c.loop-found.yielded all c.loop-found.yielded_by c.in-Some.ensures.steps
    (rw started y) in
    let line = line_of _ _ c.render-start.array_long ∙ c.render-start.ensures.written in
    AppendsBeginning-more _ _ _ _ _ _ text.0 text.1 c.loop-found.invariant.written
    (subst (AppendsBeginning _ _) line c.in_err-write_whole.ensures.beginning))

pub returns-clause-whole : goal.returns-clause-whole
returns-clause-whole g c all y =
    let started = c.into_iter-found-iterator.ensures.into_iter_gives in
    let e = text_whole g.I.Iterator.next_gives _ _ _ c.loop-found.yielded all c.loop-found.yielded_by c.in-None.ensures.steps
    (rw started y) in
    rw (← e) c.loop-found.invariant.written
