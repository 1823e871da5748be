-- The usage or the version is printed; else the automaton is saved, or the files are searched.
use Rattle.std.proofs.Common.{◌≡◌, ℕ, List, inl, inr, map, refl, ap, subst, sym, ◌∙◌}
use Rattle.std.specs.Borrow.{Bor}
use Rattle.std.proofs.KnownBytes.{Keeps-refl}
use Rattle.std.proofs.lemmas.Result.{err_from_is_err_and}
use Rattle.daachorse_model.specs.Program.{pattern_lines}
use Rattle.daacgrep_command.specs.Asked.{rules_asked}
use Rattle.daacgrep_command.specs.Causes.{IsNoAutomaton, IsNoText}
use Rattle.daacgrep_command.proofs.Asking.{ends_printed, ends_saved, ends_searched, its_usage, its_version, tells_nothing, tells_usage}
use Rattle.daacgrep_command.proofs.Asking.{tells_version}
use Rattle.daacgrep_command.proofs.Troubles.{more_after, no_automaton_after, reads_then}
use Rattle.daacgrep_command.proofs.command.answer.Goals as goal

pub returns-then-has-clause-ends : goal.returns-then-has-clause-ends
returns-then-has-clause-ends g c =
    let o = c.args.options.now in
    let itself = tells_usage o.flags c.has.result c.has.ensures c.if-has.true in
    let usage = its_usage o _ c.has.result c.has.ensures c.if-has.true c.usage.ensures in
    let p = c.print.ensures in
    ends_printed o _ _ _ _ c.print.result _ itself usage p.written p.status p.cause

pub returns-then-has-2-clause-ends : goal.returns-then-has-2-clause-ends
returns-then-has-2-clause-ends g c =
    let o = c.args.options.now in
    let itself = tells_version o.flags c.has.result c.has-2.result c.has.ensures c.if-has.false c.has-2.ensures c.if-has-2.true in
    let version = its_version o _ c.has.result c.has.ensures c.if-has.false c.version.ensures in
    let p = c.print-then-has-2.ensures in
    ends_printed o _ _ _ _ c.print-then-has-2.result _ itself version p.written p.status p.cause

pub returns-in_err-text-clause-ends : goal.returns-in_err-text-clause-ends
returns-in_err-text-clause-ends g c =
    let old = g.F.FileSystem.sees c.args.files.now in
    let new = g.F.FileSystem.sees c.text.new.files in
    let p = err_from_is_err_and c.from_residual.result c.from_residual.ensures.1 in
    let e = c.in_err-text.ensures in
    rw p.1
    (inl (
      record { saved = e.reads.saved; taken = Keeps-refl _; unfailed = refl },
      inl (subst (IsNoText c.args.options.now old new) (sym p.2) e.err),
    ))

pub returns-in_err-rules-clause-ends : goal.returns-in_err-rules-clause-ends
returns-in_err-rules-clause-ends g c =
    let p = err_from_is_err_and c.from_residual-in_err-rules.result c.from_residual-in_err-rules.ensures.1 in
    let saved = c.in_ok-text.ensures.reads.saved in
    rw p.1 (inl (record { saved = saved; taken = Keeps-refl _; unfailed = refl }, inl (inr (inl p.2))))

pub returns-in_err-automaton-clause-ends : goal.returns-in_err-automaton-clause-ends
returns-in_err-automaton-clause-ends g c =
    let o = c.args.options.now in
    let old = g.F.FileSystem.sees c.args.files.now in
    let new = g.F.FileSystem.sees c.automaton.new.files in
    let p = err_from_is_err_and c.from_residual-in_err-automaton.result c.from_residual-in_err-automaton.ensures.1 in
    let t = c.in_ok-text.ensures in
    let a = c.in_err-automaton.ensures in
    let gives = t.ok in
    let rules = map (λ (r : Bor (List ℕ)). r.now) c.in_ok-rules.rules.items in
    let are_rules : rules ≡ rules_asked o gives.files = c.in_ok-rules.ensures ∙ ap pattern_lines (c.deref.ensures.value ∙ gives.is) in
    let cause = no_automaton_after o _ _ _ rules _ t.reads (rw c.deref-2.ensures.value at a.err) in
    let here = subst (λ l. IsNoAutomaton o old new l p.0) are_rules (subst (IsNoAutomaton o old new rules) (sym p.2) cause) in
    let saved = (reads_then _ _ _ t.reads a.reads).saved in
    rw p.1
    (inl (record { saved = saved; taken = Keeps-refl _; unfailed = refl }, inr (inl (gives.files, gives.are_files, gives.are_read, here))))

pub returns-in_err-window-in-None-clause-ends : goal.returns-in_err-window-in-None-clause-ends
returns-in_err-window-in-None-clause-ends g c =
    let p = err_from_is_err_and c.from_residual-in_err-window-in-None.result c.from_residual-in_err-window-in-None.ensures.1 in
    let saved = (reads_then _ _ _ c.in_ok-text.ensures.reads c.in_ok-automaton.ensures.reads).saved in
    rw p.1 (inl (record { saved = saved; taken = Keeps-refl _; unfailed = refl }, inl (inr (inl p.2))))

pub returns-in-Some-clause-ends : goal.returns-in-Some-clause-ends
returns-in-Some-clause-ends g c =
    let o = c.args.options.now in
    let rules = map (λ (r : Bor (List ℕ)). r.now) c.in_ok-rules.rules.items in
    let t = c.in_ok-text.ensures in
    let gives = t.ok in
    let itself = tells_nothing o.flags c.has.result c.has-2.result c.has.ensures c.if-has.false c.has-2.ensures c.if-has-2.false in
    let is_asked = rw (t.reads.given, c.deref-2.ensures.value) at c.in_ok-automaton.ensures.ok in
    let are_rules : rules ≡ rules_asked o gives.files = c.in_ok-rules.ensures ∙ ap pattern_lines (c.deref.ensures.value ∙ gives.is) in
    let saved = (reads_then _ _ _ t.reads c.in_ok-automaton.ensures.reads).saved in
    let s = rw saved at c.save.ensures in
    ends_saved o _ _ gives t.named itself _ _ t.warned rules are_rules c.in_ok-automaton.automaton is_asked _ _ c.in-Some.name c.save.result
    (sym c.in-Some.ensures) s.status s.automaton s.stored s.kept s.err

pub returns-clause-ends : goal.returns-clause-ends
returns-clause-ends g c =
    let o = c.args.options.now in
    let rules = map (λ (r : Bor (List ℕ)). r.now) c.in_ok-rules.rules.items in
    let t = c.in_ok-text.ensures in
    let gives = t.ok in
    let itself = tells_nothing o.flags c.has.result c.has-2.result c.has.ensures c.if-has.false c.has-2.ensures c.if-has-2.false in
    let is_asked = rw (t.reads.given, c.deref-2.ensures.value) at c.in_ok-automaton.ensures.ok in
    let are_rules : rules ≡ rules_asked o gives.files = c.in_ok-rules.ensures ∙ ap pattern_lines (c.deref.ensures.value ∙ gives.is) in
    let reads = reads_then _ _ _ t.reads c.in_ok-automaton.ensures.reads in
    let s = c.search.ensures in
    let searched = rw (reads.given, c.deref-in-None.ensures.value, c.new-searcher.ensures) at s.searched in
    let sees = g.F.FileSystem.sees in
    let trouble = more_after (sees c.args.files.now) (sees c.automaton.new.files) (sees c.search.new.files) c.search.result reads s.trouble
    in
    ends_searched o _ _ gives t.named itself _ _ t.warned rules are_rules c.in_ok-automaton.automaton is_asked _ _ _ _ c.search.result _
    (sym c.in-None.ensures) c.task.ensures (s.reads.saved ∙ reads.saved) trouble s.cause searched
