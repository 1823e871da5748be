-- What a code leads to from an element, with the first output there.
use Rattle.std.specs.Prelude.{◌≡◌, ℕ, List, length, slice_index_or, Option, Some, None}
use Rattle.std.specs.declared.num.NonZeroU32.{NonZeroU32}
use Rattle.daachorse_core.specs.Outputs.{number}
use Rattle.daachorse_charwise_states.specs.declared.state.State.{State}
use Rattle.daachorse_charwise_states.specs.Elements.{base_in, check_in, output_in, vacant}
use Rattle.daachorse_charwise_states.specs.Parts.{child_by}

module _ (elements : List State) (e : State) where
  -- the child of the element e, which stands at index i, by a code, if there is one
  abbrev pub child_from : ℕ → ℕ → Option ℕ
  child_from i c = child_by (length elements) (λ j. check_in (slice_index_or elements j vacant)) i (base_in e) c

  -- no child, or its index and the position of its first output
  abbrev pub TellsChild : ℕ → ℕ → Option (ℕ × Option NonZeroU32) → Type 0
  TellsChild i c None = child_from i c ≡ None
  TellsChild i c (Some r) = (child_from i c ≡ Some r.0) × (number r.1 ≡ output_in (slice_index_or elements r.0 vacant))
