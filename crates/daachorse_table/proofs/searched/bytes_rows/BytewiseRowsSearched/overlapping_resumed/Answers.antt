-- The stepper that stood is one over the same rows.
use Rattle.std.proofs.Common.{rules}
use Rattle.daachorse_table.proofs.searched.bytes_rows.BytewiseRowsSearched.overlapping_resumed.Goals as goal

pub resume_find_overlapping_stepper-resumed-requires : goal.resume_find_overlapping_stepper-resumed-requires
resume_find_overlapping_stepper-resumed-requires c =
    let stands = rw c.find_overlapping_stepper-stepper.ensures.automaton at c.stand_overlapping_after-standing.ensures in
    search (rules, stands)
