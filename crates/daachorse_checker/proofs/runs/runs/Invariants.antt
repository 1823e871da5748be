-- Of each output so far it is told where its chain goes on behind those of its length.
use Rattle.std.proofs.Common.{◌≡◌, length}
use Rattle.daachorse_checker.specs.Runs.{AreRuns}
use Rattle.daachorse_checker.proofs.runs.runs.Given as goal

abbrev pub invariant-loop-number : goal.invariant-loop-number
invariant-loop-number g l = record {
  each : length l.runs.items ≡ l.number;
  runs : AreRuns l.outputs l.runs.items;
}
