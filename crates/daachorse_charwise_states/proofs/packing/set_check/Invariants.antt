-- The children so far have the check.
use Rattle.daachorse_charwise_states.specs.Writing.{HaveCheck}
use Rattle.daachorse_charwise_states.proofs.packing.set_check.Given as goal

abbrev pub invariant-loop-child : goal.invariant-loop-child
invariant-loop-child l = record {
  checked : HaveCheck l.fn.children l.child-index l.fn.check l.fn.idx_map l.fn.elements l.elements;
}
