-- The attempt ends as its request does.
use Rattle.std.proofs.Common.{subst}
use Rattle.daacfind_command.specs.declared.index.command.Request.TheVariants.{Form, Matches}
use Rattle.daacfind_command.specs.Commands.{words_of}
use Rattle.daacfind_command.specs.IndexCommands.{Ask}
use Rattle.daacfind_command.proofs.IndexLaws.{of_request}
use Rattle.daacfind_command.proofs.index.command.attempt.Goals as goal

pub returns-in-Some-Form-clause-ends : goal.returns-in-Some-Form-clause-ends
returns-in-Some-Form-clause-ends g c =
    let some = c.in-Some-Form in
    let words = words_of c.args.args.now in
    let asked : Ask words (Form some.mode some.patterns) = subst (Ask words) some.field-0-is some.ensures.asked in
    of_request words _ _ _ _ _ c.write_form.result (Form some.mode some.patterns) asked c.write_form.ensures

pub returns-in-Some-Matches-clause-ends : goal.returns-in-Some-Matches-clause-ends
returns-in-Some-Matches-clause-ends g c =
    let some = c.in-Some-Matches in
    let words = words_of c.args.args.now in
    let asked : Ask words (Matches some.mode some.automaton some.haystack) = subst (Ask words) some.field-0-is some.ensures.asked in
    of_request words _ _ _ _ _ c.write_matches.result (Matches some.mode some.automaton some.haystack) asked c.write_matches.ensures
