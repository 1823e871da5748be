-- What searches is the automaton: with rows, or given back without.
use Rattle.std.proofs.Common.{ℕ, subst}
use Rattle.std.specs.Prelude.{OnErr, OnOk}
use Rattle.std.specs.Io.KnownBytes.{Appends}
use Rattle.daachorse_model.specs.Folding.{as_read}
use Rattle.daachorse_model.specs.Program.{match_text}
use Rattle.daachorse.specs.bytewise.Automata.{Automaton, dictionary_of}
use Rattle.daachorse.specs.Replaced.{AppendsBeginning}
use Rattle.daacfind_command.specs.Modes.{found_by}
use Rattle.daacfind_command.proofs.run.write_found.Goals as goal

pub returns-in-Ok-clause-whole : goal.returns-in-Ok-clause-whole
returns-in-Ok-clause-whole g c =
    let P : Automaton ℕ → Type 0 = λ a. OnOk c.write_mode_over_rows.result
    (Appends (g.S.Sink.taken c.args.out.now) (g.S.Sink.taken c.write_mode_over_rows.new.out)
    (match_text (found_by c.args.mode (dictionary_of a) (as_read a.folds c.args.haystack.now)))) in
    subst P c.in-Ok.ensures.automaton c.write_mode_over_rows.ensures.whole

pub returns-in-Ok-clause-beginning : goal.returns-in-Ok-clause-beginning
returns-in-Ok-clause-beginning g c =
    let P : Automaton ℕ → Type 0 = λ a. OnErr c.write_mode_over_rows.result
    (AppendsBeginning (g.S.Sink.taken c.args.out.now) (g.S.Sink.taken c.write_mode_over_rows.new.out)
    (match_text (found_by c.args.mode (dictionary_of a) (as_read a.folds c.args.haystack.now)))) in
    subst P c.in-Ok.ensures.automaton c.write_mode_over_rows.ensures.beginning

pub returns-in-Err-clause-whole : goal.returns-in-Err-clause-whole
returns-in-Err-clause-whole g c =
    let P : Automaton ℕ → Type 0 = λ a. OnOk c.write_mode-in-Err.result
    (Appends (g.S.Sink.taken c.args.out.now) (g.S.Sink.taken c.write_mode-in-Err.new.out)
    (match_text (found_by c.args.mode (dictionary_of a) (as_read a.folds c.args.haystack.now)))) in
    subst P c.in-Err.ensures.back c.write_mode-in-Err.ensures.whole

pub returns-in-Err-clause-beginning : goal.returns-in-Err-clause-beginning
returns-in-Err-clause-beginning g c =
    let P : Automaton ℕ → Type 0 = λ a. OnErr c.write_mode-in-Err.result
    (AppendsBeginning (g.S.Sink.taken c.args.out.now) (g.S.Sink.taken c.write_mode-in-Err.new.out)
    (match_text (found_by c.args.mode (dictionary_of a) (as_read a.folds c.args.haystack.now)))) in
    subst P c.in-Err.ensures.back c.write_mode-in-Err.ensures.beginning
