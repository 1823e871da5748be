-- What was built of the lines finds what the mode asks for; a flush takes nothing.
use Rattle.std.proofs.Common.{[], append-nil, sym}
use Rattle.std.proofs.KnownBytes.{Appends-kept}
use Rattle.std.proofs.lemmas.Result.{err_from_is_err_and}
use Rattle.daacfind_command.specs.Modes.{text_of_mode}
use Rattle.daacfind_command.proofs.Built.{text_of_built}
use Rattle.daacfind_command.proofs.run.run.Goals as goal

pub returns-in_err-write_found-clause-beginning : goal.returns-in_err-write_found-clause-beginning
returns-in_err-write_found-clause-beginning g c =
    let text = text_of_built c.args.mode c.args.patterns.now c.args.haystack.now c.in_ok-automaton.automaton c.match_kind.result
    c.match_kind.ensures c.in_ok-automaton.ensures.built in
    let failure = err_from_is_err_and c.from_residual-in_err-write_found.result c.from_residual-in_err-write_found.ensures.1 in
    rw (failure.1, failure.2) (rw text at c.in_err-write_found.ensures.beginning)

pub returns-in_err-flush-clause-beginning : goal.returns-in_err-flush-clause-beginning
returns-in_err-flush-clause-beginning g c =
    let text = text_of_built c.args.mode c.args.patterns.now c.args.haystack.now c.in_ok-automaton.automaton c.match_kind.result
    c.match_kind.ensures c.in_ok-automaton.ensures.built in
    let failure = err_from_is_err_and c.from_residual-in_err-flush.result c.from_residual-in_err-flush.ensures.1 in
    rw (failure.1, failure.2) (
      text_of_mode c.args.mode c.args.patterns.now c.args.haystack.now,
      [],
      sym (append-nil _),
      Appends-kept _ _ _ _ (rw text at c.in_ok-write_found.ensures.whole) c.in_err-flush.ensures.taken,
    )

pub returns-clause-written : goal.returns-clause-written
returns-clause-written g c =
    let text = text_of_built c.args.mode c.args.patterns.now c.args.haystack.now c.in_ok-automaton.automaton c.match_kind.result
    c.match_kind.ensures c.in_ok-automaton.ensures.built in
    Appends-kept _ _ _ _ (rw text at c.in_ok-write_found.ensures.whole) c.in_ok-flush.ensures.taken
