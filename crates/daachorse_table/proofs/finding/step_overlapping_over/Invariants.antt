-- The stepper stays over its automaton.
use Rattle.std.proofs.Common.{◌≡◌}
use Rattle.daachorse_table.proofs.finding.step_overlapping_over.Given as goal

abbrev pub invariant-loop-place : goal.invariant-loop-place
invariant-loop-place g l = l.stepper.automaton ≡ l.fn.stepper.automaton
