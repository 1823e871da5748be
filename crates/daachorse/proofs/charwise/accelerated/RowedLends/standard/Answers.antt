-- The rows are those of the states that the automaton keeps.
use Rattle.std.proofs.Common.{sym, ap, ◌∙◌, subst}
use Rattle.daachorse_charwise_states.specs.Parts.{Parts}
use Rattle.daachorse_charwise_states.specs.StateRows.{HasRows}
use Rattle.daachorse.specs.charwise.Automata.{Automaton, states_of}
use Rattle.daachorse.proofs.charwise.accelerated.RowedLends.standard.Goals as goal

pub view-requires : goal.view-requires
view-requires g c =
    let P : Parts g.row.V.Denot → Type 0 = λ p. HasRows p c.self.inside.rows in
    subst P (sym (c.new.ensures ∙ c.standard.ensures.lends ∙ ap (λ (a : Automaton g.row.V.Denot). states_of a) c.searched.ensures)) c.self.invariant.0
