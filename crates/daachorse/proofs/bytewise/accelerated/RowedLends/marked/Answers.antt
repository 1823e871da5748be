-- The view is that of the states that the marks count.
use Rattle.std.proofs.Common.{sym, ap, ◌∙◌, subst}
use Rattle.daachorse_search.specs.Views.{HasMarks}
use Rattle.daachorse_bytewise_states.specs.Valid.{sees}
use Rattle.daachorse.specs.bytewise.Accelerated.{Accelerated}
use Rattle.daachorse.specs.bytewise.Automata.{Automaton, states_of}
use Rattle.daachorse.proofs.bytewise.accelerated.RowedLends.marked.Goals as goal

pub returns-clause-marks : goal.returns-clause-marks
returns-clause-marks g c marks has =
    let P : Automaton g.row.V.Denot → Type 0 = λ a. HasMarks (sees (states_of a)) marks in
    c.marked.ensures.marks marks (subst P (sym (c.searched.ensures ∙ ap (λ (a : Accelerated g.row.V.Denot). a.automaton) c.self.view_is)) has)
