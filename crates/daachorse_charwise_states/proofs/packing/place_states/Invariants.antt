-- The states so far are written.
use Rattle.daachorse_build.specs.Tables.{fails_of, positions_of}
use Rattle.daachorse_charwise_states.specs.Writing.{HasWritten}
use Rattle.daachorse_charwise_states.proofs.packing.place_states.Given as goal

abbrev pub invariant-loop-id : goal.invariant-loop-id
invariant-loop-id g l = record {
  placed : HasWritten l.id l.fn.idx_map l.fn.bases (fails_of l.fn.states) (positions_of l.fn.states) l.fn.elements l.elements;
}
