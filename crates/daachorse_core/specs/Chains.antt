-- The way along a chain of outputs.
use Rattle.std.specs.Prelude.{◌≡◌, ℕ, zero, suc, List, [], ◌∷◌, slice_get, Some}
use Rattle.daachorse_core.specs.declared.outputs.Output.{Output}
use Rattle.daachorse_core.specs.Outputs.{value_of, length_of, parent_of}

module _ {V : Type 0} (outputs : List (Output V)) where
  -- from position p on these values and lengths come one after another, and then position q
  abbrev pub Passes : ℕ → List (V × ℕ) → ℕ → Type 0
  Passes p [] q = p ≡ q
  Passes zero (o ∷ own) q = ⊥
  Passes (suc p) (o ∷ own) q =
      (here : Output V) × (slice_get outputs p ≡ Some here) × ((value_of here, length_of here) ≡ o) × Passes (parent_of here) own q
