-- The texts that lead to an element are the prefixes of the keys.
use Rattle.daachorse_model.specs.Units.{byte_width}
use Rattle.daachorse_array.proofs.CountLaws.{counted-prefixes}
use Rattle.daachorse_bytewise_states.proofs.ByteLaws.{valid_machine}
use Rattle.daachorse_bytewise_states.proofs.states.States.num_states.Goals as goal

pub returns-clause-prefixes : goal.returns-clause-prefixes
returns-clause-prefixes g c =
    let valid = c.self.invariant.valid in
    rw (← c.self.view_is) (counted-prefixes byte_width _ _ _ 256 c.self.inside.num_states (valid_machine _ valid) valid.sound.counted)
