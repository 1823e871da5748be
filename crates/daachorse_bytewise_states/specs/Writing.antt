-- How the elements come about: by state the label that leads to it, a block of vacant elements after the other, and then each state at its place.
use Rattle.std.specs.Prelude.{◌≡◌, ℕ, ◌+◌, ◌<◌, ◌≤◌, ◌%◌, bit_xor, List, length, slice_index, Some}
use Rattle.std.specs.Ordering.{nat_cmp}
use Rattle.daachorse_placement.specs.Layout.{Layout}
use Rattle.daachorse_build.specs.Tables.{child_in as edge_to}
use Rattle.daachorse_bytewise_states.specs.declared.state.State.{State}
use Rattle.daachorse_bytewise_states.specs.Elements.{base_in, check_in, fail_in, output_in, vacant}
use Rattle.daachorse_bytewise_states.specs.Packing.{IsVacant, element_at}
use Rattle.daachorse_patterns.specs.Settled.{AreWritten}

-- by state the label of the edge to it; nothing leads to the root
pub record AreLabelled (edges : List (List (ℕ × ℕ))) (labels : List ℕ) : Type 0 where
  pub size : length labels ≡ length edges
  pub root : slice_index labels 0 ≡ 0
  pub children : (s c t : ℕ) → edge_to nat_cmp edges s c ≡ Some t → slice_index labels t ≡ c

-- each element is vacant
pub record AreVacant (l : Layout) (es : List (State ℕ)) : Type 0 where
  pub size : length es ≡ length l.used
  pub all : (i : ℕ) → i < length es → IsVacant l i (element_at es i)

-- n elements more, which are vacant, as in a block with the unused base u
pub record HasVacants (n u : ℕ) (old new : List (State ℕ)) : Type 0 where
  pub size : length new ≡ length old + n
  pub kept : (i : ℕ) → i < length old → element_at new i ≡ element_at old i
  pub base : (i : ℕ) → length old ≤ i → i < length new → base_in (element_at new i) ≡ 0
  pub fail : (i : ℕ) → length old ≤ i → i < length new → fail_in (element_at new i) ≡ 0
  pub output : (i : ℕ) → length old ≤ i → i < length new → output_in (element_at new i) ≡ 0
  pub check : (i : ℕ) → length old ≤ i → i < length new → check_in (element_at new i) ≡ bit_xor i u % 256

-- the first m states but the dead one are written, with their labels for checks, and nothing else
abbrev pub HasWritten : ℕ → List ℕ → List ℕ → List ℕ → List ℕ → List ℕ → List (State ℕ) → List (State ℕ) → Type 0
HasWritten m idx bases labels fails positions = AreWritten vacant base_in check_in fail_in output_in m idx bases (slice_index labels) fails positions
