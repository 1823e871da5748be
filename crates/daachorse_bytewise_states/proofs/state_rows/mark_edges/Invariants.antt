-- Each byte that leads from a marked base to one of the elements so far is marked.
use Rattle.daachorse_bytewise_states.specs.EdgeBytes.{MarksEdges}
use Rattle.daachorse_bytewise_states.proofs.state_rows.mark_edges.Given as goal

abbrev pub invariant-loop-element : goal.invariant-loop-element
invariant-loop-element g l = MarksEdges l.elements l.bases.items l.element l.marks.items
