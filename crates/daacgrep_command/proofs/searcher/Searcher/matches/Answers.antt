-- What searches is the automaton that is shown.
use Rattle.std.proofs.Common.{◌≡◌, ℕ, ap, ◌∙◌}
use Rattle.daachorse.specs.bytewise.Automata.{Automaton}
use Rattle.daacgrep_command.specs.Sought.{matches_in, sought_of}
use Rattle.daacgrep_command.proofs.searcher.Searcher.matches.Goals as goal

pub returns-in-Plain : goal.returns-in-Plain
returns-in-Plain g c =
    let e : c.in-Plain.automaton ≡ c.args.self.now = rw c.in-Plain.is at c.self.view_is in
    c.plain_matches.ensures ∙ ap (λ (a : Automaton ℕ). matches_in (sought_of a) c.args.line.now) e

pub returns-in-Rows : goal.returns-in-Rows
returns-in-Rows g c =
    let e : c.in-Rows.searcher.automaton ≡ c.args.self.now = rw c.in-Rows.is at c.self.view_is in
    c.rowed_matches.ensures ∙ ap (λ (a : Automaton ℕ). matches_in (sought_of a) c.args.line.now) e
