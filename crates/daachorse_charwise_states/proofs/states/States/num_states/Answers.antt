-- The texts that lead to an element are the prefixes of the keys.
use Rattle.daachorse_model.specs.Units.{char_width}
use Rattle.daachorse_array.proofs.CountLaws.{counted-prefixes}
use Rattle.daachorse_charwise_states.proofs.CharLaws.{valid_machine}
use Rattle.daachorse_charwise_states.proofs.states.States.num_states.Goals as goal

pub returns-clause-prefixes : goal.returns-clause-prefixes
returns-clause-prefixes g c =
    let valid = c.self.invariant in
    rw (← c.self.view_is) (counted-prefixes char_width _ _ _ _ c.self.inside.num_states (valid_machine _ valid) valid.sound.counted)
