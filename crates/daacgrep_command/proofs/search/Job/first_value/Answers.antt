-- The first match is the first that the search gives.
use Rattle.std.proofs.Common.{ap, sym, ◌∙◌}
use Rattle.daacgrep_command.specs.Jobs.{wanted_of}
use Rattle.daacgrep_command.specs.Rules.{first_value}
use Rattle.daacgrep_command.proofs.search.Job.first_value.Goals as goal

pub returns-in-Some : goal.returns-in-Some
returns-in-Some g c =
    let value = first_value (wanted_of c.args.self.now).rules in
    c.match_value.ensures ∙ sym (ap value c.in-Some.ensures.steps) ∙ ap value c.matches.ensures
