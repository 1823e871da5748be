-- None of the listed labels so far has the number.
use Rattle.std.proofs.Common.{◌≢◌, ◌<◌, ℕ, map}
use Rattle.std.specs.Prelude.{slice_index}
use Rattle.daachorse_rows.proofs.making.slot_of.Given as goal

abbrev pub invariant-loop-k : goal.invariant-loop-k
invariant-loop-k g l = (j : ℕ) → j < l.k → slice_index (map g.T.RowLabel.number l.labels) j ≢ l.number
