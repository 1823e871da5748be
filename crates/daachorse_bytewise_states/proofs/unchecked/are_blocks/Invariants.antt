-- The base of each element so far is an element; each round looks at one element more.
use Rattle.std.proofs.Common.{ℕ, ◌<◌, ◌≤◌, ◌-◌, length}
use Rattle.std.specs.Prelude.{slice_index_or}
use Rattle.daachorse_bytewise_states.specs.declared.state.State.{State}
use Rattle.daachorse_bytewise_states.specs.Elements.{base_in}
use Rattle.daachorse_bytewise_states.proofs.unchecked.are_blocks.Given as goal

abbrev pub invariant-loop-element : goal.invariant-loop-element
invariant-loop-element g l = record {
  within : l.element ≤ length l.states;
  each : (default : State g.row.F.Denot) (i : ℕ) → i < l.element → base_in (slice_index_or l.states i default) < length l.states;
}

abbrev pub decreases-loop-element : goal.decreases-loop-element
decreases-loop-element g l = length l.states - l.element
