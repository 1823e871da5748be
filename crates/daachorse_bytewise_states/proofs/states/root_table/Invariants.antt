-- The table has an entry for each byte so far: the element of the root's child by that byte, or the root where there is none, with the word of that element.
use Rattle.std.specs.Prelude.{slice_index_or}
use Rattle.daachorse_bytewise_states.specs.Elements.{vacant, word_in}
use Rattle.daachorse_bytewise_states.specs.Parts.{child_among}
use Rattle.daachorse_bytewise_states.specs.Valid.{IsRootTable}
use Rattle.daachorse_bytewise_states.proofs.states.root_table.Given as goal

abbrev pub invariant-loop-label : goal.invariant-loop-label
invariant-loop-label g l = IsRootTable (child_among vacant l.states 0) (λ i. word_in (slice_index_or l.states i vacant)) l.label l.table.items
