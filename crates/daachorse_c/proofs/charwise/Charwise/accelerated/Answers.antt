-- The copy has rows, or there is no room for those of the automaton.
use Rattle.std.proofs.Common.{◌≡◌, false, IfOk, refl, ◌∙◌, subst}
use Rattle.daachorse_charwise_states.specs.StateRows.{HasNoRoom}
use Rattle.daachorse.specs.charwise.Automata.{states_of}
use Rattle.daachorse_c.specs.declared.charwise.Charwise.TheVariants.{Plain, Rowed}
use Rattle.daachorse_c.specs.Held.{has_character_rows, over_characters}
use Rattle.daachorse_c.proofs.Rows.{rows_or_no_room}
use Rattle.daachorse_c.proofs.charwise.Charwise.accelerated.Goals as goal

pub returns-clause-rows : goal.returns-clause-rows
returns-clause-rows c =
    let copy = c.in_ok-clone.field-0 in let made = c.of_answer.ensures in
    let same : copy ≡ over_characters c.args.self.now = c.in_ok-clone.ensures.same ∙ c.automaton.ensures in
    subst (λ a. IfOk c.of_answer.result (λ s. has_character_rows s ≡ false → HasNoRoom (states_of a))) same
    (rows_or_no_room (λ e. e.refusal) has_character_rows Rowed (λ e. Plain e.automaton) (λ a. refl) (HasNoRoom (states_of copy)) c.accelerate.result
    c.of_answer.result made.rowed made.plain made.err c.accelerate.ensures.none)
