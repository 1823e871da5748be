-- The bases of the elements so far are marked.
use Rattle.daachorse_bytewise_states.specs.EdgeBytes.{MarksBases}
use Rattle.daachorse_bytewise_states.proofs.state_rows.mark_bases.Given as goal

abbrev pub invariant-loop-element : goal.invariant-loop-element
invariant-loop-element g l = MarksBases l.elements l.element l.marks.items
