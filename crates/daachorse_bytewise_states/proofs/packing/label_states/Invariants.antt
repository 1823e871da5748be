-- The children of the states so far have their labels, and nothing leads to the root.
use Rattle.std.proofs.Common.{◌≡◌, ℕ, ◌<◌, length, Some}
use Rattle.std.specs.Prelude.{slice_index}
use Rattle.std.specs.Ordering.{nat_cmp}
use Rattle.daachorse_build.specs.Tables.{child_in, edges_of}
use Rattle.daachorse_bytewise_states.proofs.packing.label_states.Given as goal

abbrev pub invariant-loop-state : goal.invariant-loop-state
invariant-loop-state g l = record {
  size : length l.labels ≡ length l.fn.states;
  root : slice_index l.labels 0 ≡ 0;
  children : (s c t : ℕ) → s < l.state-index → child_in nat_cmp (edges_of l.fn.states) s c ≡ Some t → slice_index l.labels t ≡ c;
}
