-- The children of the groups so far have their checks.
use Rattle.daachorse_charwise_states.specs.Writing.{HaveChecks}
use Rattle.daachorse_charwise_states.proofs.packing.set_checks.Given as goal

abbrev pub invariant-loop-group : goal.invariant-loop-group
invariant-loop-group g l = record {
  checked : HaveChecks l.fn.groups l.group-index l.fn.idx_map l.fn.elements l.elements;
}
