-- The view is that of the states that the marks count.
use Rattle.std.proofs.Common.{sym, ap, ◌∙◌, subst}
use Rattle.daachorse_search.specs.Views.{HasMarks}
use Rattle.daachorse_bytewise_states.specs.Parts.{Parts}
use Rattle.daachorse_bytewise_states.specs.Valid.{sees}
use Rattle.daachorse.specs.bytewise.Automata.{Automaton}
use Rattle.daachorse.proofs.bytewise.searched.PlainLends.marked.Goals as goal

pub returns-clause-marks : goal.returns-clause-marks
returns-clause-marks g c marks has =
    let P : Parts g.row.V.Denot → Type 0 = λ p. HasMarks (sees p) marks in
    subst P (sym (c.leftmost.ensures ∙ ap (λ (a : Automaton g.row.V.Denot). a.parts) c.self.view_is)) has
