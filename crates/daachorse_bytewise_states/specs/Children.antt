-- What a byte leads to from an element, with the word of that element's other parts.
use Rattle.std.specs.Prelude.{◌≡◌, ℕ, List, length, slice_index_or, Option, Some, None}
use Rattle.daachorse_bytewise_states.specs.declared.state.State.{State}
use Rattle.daachorse_bytewise_states.specs.Elements.{base_in, check_in, word_in}
use Rattle.daachorse_bytewise_states.specs.Parts.{child_by}

module _ {F : Type 0} (elements : List (State F)) (e : State F) where
  -- the child of the element e by a byte, if there is one
  abbrev pub child_from : ℕ → Option ℕ
  child_from c = child_by (length elements) (base_in e) (λ i. check_in (slice_index_or elements i e)) c

  -- no child, or its index and its word
  abbrev pub TellsChild : ℕ → Option (ℕ × ℕ) → Type 0
  TellsChild c None = child_from c ≡ None
  TellsChild c (Some r) = (child_from c ≡ Some r.0) × (r.1 ≡ word_in (slice_index_or elements r.0 e))
