-- The marks are those of the states that the automaton keeps.
use Rattle.std.proofs.Common.{subst}
use Rattle.daachorse_bytewise_states.specs.Valid.{sees}
use Rattle.daachorse_search.specs.Views.{HasMarks}
use Rattle.daachorse.specs.bytewise.Automata.{Automaton}
use Rattle.daachorse.proofs.bytewise.searched.PlainSearched.stream_marks.Goals as goal

pub returns-clause-ok : goal.returns-clause-ok
returns-clause-ok g c =
    let P : Automaton g.row.V.Denot → Type 0 = λ a. HasMarks (sees a.parts) c.in_ok-children.children.items in
    record { children = subst P c.self.view_is c.in_ok-children.ensures.ok; longest = c.in_ok-longest.ensures.ok }
