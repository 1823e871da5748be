-- What an output tells: a value, the length of its key in bytes, and the position of the next output of the state.
-- Positions count from 1; 0 stands for none.
use Rattle.std.specs.Prelude.{◌≡◌, ◌≤◌, ℕ, zero, suc, List, [], ◌∷◌, slice_get, Option, Some, None}
use Rattle.std.specs.declared.num.NonZeroU32.{NonZeroU32}
use Rattle.daachorse_core.specs.declared.outputs.Output.{Output}

abbrev pub value_of : {V : Type 0} → Output V → V
value_of o = o.value

abbrev pub length_of : {V : Type 0} → Output V → ℕ
length_of o = o.length

abbrev pub parent_of : {V : Type 0} → Output V → ℕ
parent_of o = o.parent

-- the number of a position that there may be
abbrev pub number : Option NonZeroU32 → ℕ
number None = 0
number (Some p) = p.value

module _ {V : Type 0} (outputs : List (Output V)) where
  abbrev pub list_step : Option (Output V) → (ℕ → List (V × ℕ)) → List (V × ℕ)
  list_step None later = []
  list_step (Some o) later = (value_of o, length_of o) ∷ later (parent_of o)

  -- the outputs from a position on, at most so many
  abbrev pub list_from : ℕ → ℕ → List (V × ℕ)
  list_from zero p = []
  list_from (suc steps) zero = []
  list_from (suc steps) (suc q) = list_step (slice_get outputs q) (λ r. list_from steps r)

  -- the outputs from a position on: positions fall along a chain, so that many steps are enough
  abbrev pub outputs_at : ℕ → List (V × ℕ)
  outputs_at p = list_from p p

  -- the next output of each comes before it
  abbrev pub ParentsFall : Type 0
  ParentsFall = (i : ℕ) (o : Output V) → slice_get outputs i ≡ Some o → parent_of o ≤ i
