-- The marks are those of the automaton's own states.
use Rattle.std.proofs.Common.{ap, ◌∙◌, subst}
use Rattle.std.specs.Prelude.{IfOk}
use Rattle.daachorse_model.specs.Units.{byte_width}
use Rattle.daachorse_bytewise_states.specs.Valid.{sees}
use Rattle.daachorse_streams.specs.Marked.{IsMarkedFor}
use Rattle.daachorse.specs.bytewise.Accelerated.{Accelerated}
use Rattle.daachorse.specs.bytewise.Automata.{Automaton, states_of}
use Rattle.daachorse.proofs.bytewise.accelerated.RowedSearched.stream_marks.Goals as goal

pub returns-clause-ok : goal.returns-clause-ok
returns-clause-ok g c =
    let P : Automaton g.row.V.Denot → Type 0 = λ a. IfOk c.stream_marks.result (IsMarkedFor byte_width (sees (states_of a))) in
    subst P (c.searched.ensures ∙ ap (λ (a : Accelerated g.row.V.Denot). a.automaton) c.self.view_is) c.stream_marks.ensures.ok
