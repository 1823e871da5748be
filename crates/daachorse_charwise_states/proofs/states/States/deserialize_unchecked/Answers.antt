-- What is read is what was written.
use Rattle.std.proofs.Common.{◌∙◌}
use Rattle.std.proofs.lemmas.Result.{err_from_is_err_and}
use Rattle.daachorse_checker.proofs.ReadLaws.{reads_back, reads_valid, refuses_form}
use Rattle.daachorse_charwise_states.proofs.FormLaws.{automaton_law}
use Rattle.daachorse_charwise_states.proofs.states.States.deserialize_unchecked.Goals as goal

pub returns-in_err-lists-clause-err : goal.returns-in_err-lists-clause-err
returns-in_err-lists-clause-err g c =
    let p = err_from_is_err_and c.from_residual.result c.from_residual.ensures.1 in
    let w = c.requires in
    rw (p.1, p.2) (refuses_form (automaton_law g.met.V.Serializable.law) c.args.src.now w.begins.0 w.parts w.folds w.filter w.automaton w.begins.1 c.in_err-lists.field-0.0 c.in_err-lists.ensures.given)

pub of_lists-requires : goal.of_lists-requires
of_lists-requires g c =
    let w = c.requires in reads_valid (automaton_law g.met.V.Serializable.law) c.args.src.now w.begins.0 w.parts w.folds w.filter w.automaton w.begins.1 _ c.in_ok-lists.ensures.given

pub returns-clause-ok : goal.returns-clause-ok
returns-clause-ok g c p folds filter rest a is =
    let same = reads_back (automaton_law g.met.V.Serializable.law) c.args.src.now rest p folds filter a is _ c.in_ok-lists.ensures.given in
    (c.of_lists.ensures.states ∙ same.0, c.of_lists.ensures.folds ∙ same.1, c.of_lists.ensures.filter ∙ same.2, same.3)
