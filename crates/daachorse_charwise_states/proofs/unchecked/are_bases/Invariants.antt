-- The bases so far are elements.
use Rattle.std.proofs.Common.{ℕ, ◌<◌, ◌≤◌, ◌-◌, length}
use Rattle.std.specs.Prelude.{slice_index_or}
use Rattle.daachorse_charwise_states.specs.Elements.{base_in, vacant}
use Rattle.daachorse_charwise_states.proofs.unchecked.are_bases.Given as goal

abbrev pub invariant-loop-element : goal.invariant-loop-element
invariant-loop-element l = record {
  within : l.element ≤ length l.states;
  each : (i : ℕ) → i < l.element → base_in (slice_index_or l.states i vacant) < length l.states;
}

abbrev pub decreases-loop-element : goal.decreases-loop-element
decreases-loop-element l = length l.states - l.element
