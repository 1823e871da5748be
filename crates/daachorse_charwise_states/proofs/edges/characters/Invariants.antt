-- The code points so far are the characters of their codes.
use Rattle.daachorse_charwise_states.specs.Edges.{AreCharacters}
use Rattle.daachorse_charwise_states.proofs.edges.characters.Given as goal

abbrev pub invariant-loop-code_point : goal.invariant-loop-code_point
invariant-loop-code_point g l = record { characters : AreCharacters l.mapper l.code_point l.characters.items }
