-- A word more was taken, or none is left.
use Rattle.std.proofs.Common.{List, ℕ, [], ◌∷◌, ◌++◌, Ok, ap, sym, append_assoc, ◌∙◌, ◌+◌, drop, get_or, map, refl, lit<}
use Rattle.std.proofs.lemmas.List.Elements.{Contains-append_right}
use Rattle.std.proofs.lemmas.Result.{err_from_is_err_and}
use Rattle.std.specs.Prelude.{codes}
use Rattle.std.specs.Borrow.{Bor}
use Rattle.daacgrep_command.specs.Options.{Lacks, asked_by, options_of, requests}
use Rattle.daacgrep_command.proofs.Requests.{IsCause-left, IsCause-right, takes_then, words_ended, words_more}
use Rattle.daacgrep_command.proofs.options.Options.read_words.Goals as goal

nothing : Bor (List ℕ)
nothing = record { ref_ptr = (0, 0); now = [] }

pub returns-in_err-role-clause-err : goal.returns-in_err-role-clause-err
unfolding nothing
returns-in_err-role-clause-err g c =
    let l = c.loop-word in
    let p = err_from_is_err_and c.from_residual.result c.from_residual.ensures.1 in
    let e = words_more l.role c.args.words.now l.word-index nothing c.loop-word-test.true in
    rw (p.1, p.2, l.invariant.all, e) (IsCause-right _ l.invariant.done _ (IsCause-left _ _ _ c.in_err-role.ensures.takes.cause))

pub loop-word-preserved : goal.loop-word-preserved
unfolding nothing
loop-word-preserved g c =
    let l = c.loop-word in
    let m = l.invariant in
    let more = words_more l.role c.args.words.now l.word-index nothing c.loop-word-test.true in
    let rest = map (λ (w : Bor (List ℕ)). w.now) (drop (l.word-index + 1) c.args.words.now) in
    let asks = asked_by l.role (get_or c.args.words.now l.word-index nothing).now in
    let t = takes_then (options_of []) l.options c.take.new.self m.done asks (Ok c.in_ok-role.role) m.known m.taken c.in_ok-role.ensures.takes in
    record {
      done = m.done ++ asks;
      all = m.all ∙ ap (λ rs. m.done ++ rs) (more ∙ ap (λ r. asks ++ requests r rest) (sym c.in_ok-role.ensures.role)) ∙ sym (append_assoc m.done asks (requests c.in_ok-role.role rest));
      known = t.known;
      taken = t.taken;
    }

pub returns-in-Pattern-clause-err : goal.returns-in-Pattern-clause-err
returns-in-Pattern-clause-err g c =
    let l = c.loop-word in
    rw (l.invariant.all, words_ended l.role c.args.words.now l.word-index c.loop-word-test.false, c.in-Pattern.is) (Contains-append_right l.invariant.done (Lacks (45 ∷ 101 ∷ []) ∷ []) _ (0, lit< tt, refl))

pub returns-in-PatternFile-clause-err : goal.returns-in-PatternFile-clause-err
returns-in-PatternFile-clause-err g c =
    let l = c.loop-word in
    rw (l.invariant.all, words_ended l.role c.args.words.now l.word-index c.loop-word-test.false, c.in-PatternFile.is) (Contains-append_right l.invariant.done (Lacks (45 ∷ 102 ∷ []) ∷ []) _ (0, lit< tt, refl))

pub returns-in-Save-clause-err : goal.returns-in-Save-clause-err
returns-in-Save-clause-err g c =
    let l = c.loop-word in
    rw (l.invariant.all, words_ended l.role c.args.words.now l.word-index c.loop-word-test.false, c.in-Save.is) (Contains-append_right l.invariant.done (Lacks (codes "--save") ∷ []) _ (0, lit< tt, refl))

pub returns-in-Load-clause-err : goal.returns-in-Load-clause-err
returns-in-Load-clause-err g c =
    let l = c.loop-word in
    rw (l.invariant.all, words_ended l.role c.args.words.now l.word-index c.loop-word-test.false, c.in-Load.is) (Contains-append_right l.invariant.done (Lacks (codes "--load") ∷ []) _ (0, lit< tt, refl))
