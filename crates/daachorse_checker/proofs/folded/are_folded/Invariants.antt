-- The labels before the rank are folded.
use Rattle.std.proofs.Common.{◌≡◌, ℕ, ◌<◌, get_or}
use Rattle.daachorse_model.specs.Folding.{folded_unit}
use Rattle.daachorse_checker.proofs.folded.are_folded.Given as goal

abbrev pub invariant-loop-rank : goal.invariant-loop-rank
invariant-loop-rank l = record {
  each : (m : ℕ) → 0 < m → m < l.rank → folded_unit (get_or l.labels m 0) ≡ get_or l.labels m 0;
}
