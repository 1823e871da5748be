-- The next output of each output so far stands before it.
use Rattle.std.proofs.Common.{◌≡◌, ℕ, ◌<◌, ◌≤◌, Some}
use Rattle.std.specs.Prelude.{slice_get}
use Rattle.daachorse_core.specs.declared.outputs.Output.{Output}
use Rattle.daachorse_core.specs.Outputs.{parent_of}
use Rattle.daachorse_checker.proofs.runs.parents_fall.Given as goal

abbrev pub invariant-loop-number : goal.invariant-loop-number
invariant-loop-number g l = record {
  fall : (i : ℕ) (o : Output g.row.V.Denot) → i < l.number → slice_get l.outputs i ≡ Some o → parent_of o ≤ i;
}
