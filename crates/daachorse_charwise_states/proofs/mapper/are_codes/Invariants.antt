-- The codes of the code points so far are marked.
use Rattle.daachorse_charwise_states.specs.CodingForms.{coding_from}
use Rattle.daachorse_charwise_states.proofs.Taken.{AreTaken}
use Rattle.daachorse_charwise_states.proofs.mapper.are_codes.Given as goal

abbrev pub invariant-loop-code : goal.invariant-loop-code
invariant-loop-code g l = record { taken : AreTaken (coding_from (l.table, l.alphabet_size)) l.code-index l.taken.items }
