-- The copy has rows, or there is no room for those of the automaton.
use Rattle.std.proofs.Common.{◌≡◌, false, IfOk, refl, ◌∙◌, subst}
use Rattle.daachorse_bytewise_states.specs.StateRows.{HasNoRoom}
use Rattle.daachorse.specs.bytewise.Automata.{states_of}
use Rattle.daachorse_c.specs.declared.bytewise.Bytewise.TheVariants.{Plain, Rowed}
use Rattle.daachorse_c.specs.Held.{has_byte_rows, over_bytes}
use Rattle.daachorse_c.proofs.Rows.{rows_or_no_room}
use Rattle.daachorse_c.proofs.bytewise.Bytewise.accelerated.Goals as goal

pub returns-clause-rows : goal.returns-clause-rows
returns-clause-rows c =
    let copy = c.in_ok-clone.field-0 in let made = c.of_answer.ensures in
    let same : copy ≡ over_bytes c.args.self.now = c.in_ok-clone.ensures.same ∙ c.automaton.ensures in
    subst (λ a. IfOk c.of_answer.result (λ s. has_byte_rows s ≡ false → HasNoRoom (states_of a))) same
    (rows_or_no_room (λ e. e.refusal) has_byte_rows Rowed (λ e. Plain e.automaton) (λ a. refl) (HasNoRoom (states_of copy)) c.accelerate.result
    c.of_answer.result made.rowed made.plain made.err c.accelerate.ensures.none)
