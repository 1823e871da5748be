-- Bytes that give no states give no automaton, nor do those whose patterns are not folded where haystacks are, nor those with a filter that does not pass; what was written gives it.
use Rattle.std.proofs.Common.{inr}
use Rattle.std.proofs.lemmas.Bool.{iff_false}
use Rattle.std.proofs.lemmas.Result.{err_from_is_err_and}
use Rattle.daachorse_core.proofs.Refusals.{at_error}
use Rattle.daachorse_checker.proofs.ReadLaws.{given, gives_back, refused_filter, refused_fold, refused_parts, refuses_written}
use Rattle.daachorse_charwise_states.specs.PartForms.{take_parts}
use Rattle.daachorse_charwise_states.specs.Valid.{IsValid}
use Rattle.daachorse_charwise_states.proofs.FormLaws.{automaton_law}
use Rattle.daachorse.specs.charwise.Automata.{MayFold, MayHaveFilter}
use Rattle.daachorse.proofs.charwise.written.CharwiseDoubleArrayAhoCorasick+V+A.deserialize.Goals as goal

pub returns-in_err-read-clause-err : goal.returns-in_err-read-clause-err
returns-in_err-read-clause-err g c = at_error c.from_residual.result _ _ c.from_residual.ensures.1 (refused_parts IsValid MayFold MayHaveFilter (take_parts g.V.Serializable.taken c.args.source.now) c.in_err-read.field-0.0 c.in_err-read.ensures.err)

pub returns-in_err-read-clause-memory : goal.returns-in_err-read-clause-memory
returns-in_err-read-clause-memory g c =
    let p = err_from_is_err_and c.from_residual.result c.from_residual.ensures.1 in
    rw (p.1, p.2)
    (λ w. refuses_written (automaton_law g.met.V.Serializable.law) c.args.source.now w.begins.0 w.automaton w.is_one w.begins.1 c.in_err-read.field-0.0
    (refused_parts IsValid MayFold MayHaveFilter (take_parts g.V.Serializable.taken c.args.source.now) c.in_err-read.field-0.0 c.in_err-read.ensures.err))

pub returns-then-not-branch-clause-err : goal.returns-then-not-branch-clause-err
returns-then-not-branch-clause-err g c =
    let r = c.in_ok-read in
    inr (refused_fold IsValid MayFold MayHaveFilter (take_parts g.V.Serializable.taken c.args.source.now) r.read.0 r.read.1 r.read.2 r.rest.now r.ensures.given (iff_false c.in_ok-may_fold.ensures.ok c.if-not-branch.true))

pub returns-then-not-branch-clause-memory : goal.returns-then-not-branch-clause-memory
returns-then-not-branch-clause-memory g c w =
    let r = c.in_ok-read in
    refuses_written (automaton_law g.met.V.Serializable.law) c.args.source.now w.begins.0 w.automaton w.is_one w.begins.1 c.invalid_automaton.result
    (inr (refused_fold IsValid MayFold MayHaveFilter (take_parts g.V.Serializable.taken c.args.source.now) r.read.0 r.read.1 r.read.2 r.rest.now r.ensures.given (iff_false c.in_ok-may_fold.ensures.ok c.if-not-branch.true)))

pub returns-then-not-branch-2-clause-err : goal.returns-then-not-branch-2-clause-err
returns-then-not-branch-2-clause-err g c =
    let r = c.in_ok-read in
    inr (refused_filter IsValid MayFold MayHaveFilter (take_parts g.V.Serializable.taken c.args.source.now) r.read.0 r.read.1 r.read.2 r.rest.now r.ensures.given (iff_false c.in_ok-passes.ensures.ok c.if-not-branch-2.true))

pub returns-then-not-branch-2-clause-memory : goal.returns-then-not-branch-2-clause-memory
returns-then-not-branch-2-clause-memory g c w =
    let r = c.in_ok-read in
    refuses_written (automaton_law g.met.V.Serializable.law) c.args.source.now w.begins.0 w.automaton w.is_one w.begins.1 c.invalid_automaton-then-not-branch-2.result
    (inr (refused_filter IsValid MayFold MayHaveFilter (take_parts g.V.Serializable.taken c.args.source.now) r.read.0 r.read.1 r.read.2 r.rest.now r.ensures.given (iff_false c.in_ok-passes.ensures.ok c.if-not-branch-2.true)))

pub returns-clause-given : goal.returns-clause-given
returns-clause-given g c =
    let r = c.in_ok-read in let e = c.of_states.ensures in
    given IsValid MayFold MayHaveFilter (take_parts g.V.Serializable.taken c.args.source.now) r.read.0 r.read.1 r.read.2 r.rest.now r.ensures.given c.of_states.result r.ensures.valid (c.in_ok-may_fold.ensures.ok.0 c.if-not-branch.false)
    (c.in_ok-passes.ensures.ok.0 c.if-not-branch-2.false) e.states e.folds e.filter

pub returns-clause-back : goal.returns-clause-back
returns-clause-back g c a rest is_one is =
    let r = c.in_ok-read in let e = c.of_states.ensures in
    gives_back (automaton_law g.met.V.Serializable.law) c.args.source.now rest a is_one is c.of_states.result r.rest.now
    (given IsValid MayFold MayHaveFilter (take_parts g.V.Serializable.taken c.args.source.now) r.read.0 r.read.1 r.read.2 r.rest.now r.ensures.given c.of_states.result r.ensures.valid (c.in_ok-may_fold.ensures.ok.0 c.if-not-branch.false)
    (c.in_ok-passes.ensures.ok.0 c.if-not-branch-2.false) e.states e.folds e.filter)
    e.depths
