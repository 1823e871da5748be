-- What searches is the automaton that is shown.
use Rattle.std.proofs.Common.{◌≡◌, ℕ, ap, ◌∙◌}
use Rattle.daachorse.specs.bytewise.Automata.{Automaton}
use Rattle.daacgrep_command.specs.Printed.{occurs}
use Rattle.daacgrep_command.specs.Sought.{sought_of}
use Rattle.daacgrep_command.proofs.Selected.{occurs_so}
use Rattle.daacgrep_command.proofs.searcher.Searcher.is_match.Goals as goal

pub returns-in-Plain : goal.returns-in-Plain
returns-in-Plain g c =
    let e : c.in-Plain.automaton ≡ c.args.self.now = rw c.in-Plain.is at c.self.view_is in
    occurs_so c.is_match.result _ c.is_match.ensures ∙ ap (λ (a : Automaton ℕ). occurs (sought_of a) c.args.line.now) e

pub returns-in-Rows : goal.returns-in-Rows
returns-in-Rows g c =
    let e : c.in-Rows.searcher.automaton ≡ c.args.self.now = rw c.in-Rows.is at c.self.view_is in
    occurs_so c.is_match-in-Rows.result _ c.is_match-in-Rows.ensures ∙ ap (λ (a : Automaton ℕ). occurs (sought_of a) c.args.line.now) e
