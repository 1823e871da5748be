-- The labels of the edges before those to come are set.
use Rattle.daachorse_bytewise_states.proofs.WritingLaws.{IsLabelling}
use Rattle.daachorse_bytewise_states.proofs.packing.label_children.Given as goal

abbrev pub invariant-loop-label : goal.invariant-loop-label
invariant-loop-label g l = record {
  labelling : IsLabelling l.fn.edges l.label-iterator l.fn.labels l.labels;
}
