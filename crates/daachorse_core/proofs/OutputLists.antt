-- The outputs from a position on: one output, and then those from its parent, which stands before it.
use Rattle.std.proofs.Common.{◌≡◌, ℕ, zero, suc, ◌≤◌, List, [], ◌∷◌, length, Option, Some, None, refl, sym, ap, ◌∙◌, arith}
use Rattle.std.specs.Prelude.{slice_get}
use Rattle.daachorse_core.specs.declared.outputs.Output.{Output}
use Rattle.daachorse_core.specs.Outputs.{value_of, length_of, parent_of, list_step, list_from, outputs_at, ParentsFall}

module _ {V : Type 0} (outputs : List (Output V)) where
  pub list_from-zero : (steps : ℕ) → list_from outputs steps 0 ≡ []
  list_from-zero zero = refl
  list_from-zero (suc steps) = refl

  -- no list is longer than its steps
  pub length-list_from : (steps p : ℕ) → length (list_from outputs steps p) ≤ steps
  length-list_from zero p = omega arith
  length-list_from (suc steps) zero = omega arith
  length-list_from (suc steps) (suc q) = go (slice_get outputs q) (λ r. length-list_from steps r)
    where
      go : (o : Option (Output V)) → ((r : ℕ) → length (list_from outputs steps r) ≤ steps) → length (list_step outputs o (λ r. list_from outputs steps r)) ≤ suc steps
      go None more = omega arith
      go (Some o) more = let fits : length (list_from outputs steps (parent_of o)) ≤ steps = more (parent_of o) in omega (arith, fits)

  module _ (falls : ParentsFall outputs) where
    -- more steps than the position give no more
    pub list_from-steps : (s t p : ℕ) → p ≤ s → p ≤ t → list_from outputs s p ≡ list_from outputs t p
    list_from-steps s t zero h k = list_from-zero s ∙ sym (list_from-zero t)
    list_from-steps zero t (suc q) h k = absurd (omega arith)
    list_from-steps (suc s) zero (suc q) h k = absurd (omega arith)
    list_from-steps (suc s) (suc t) (suc q) h k = go (slice_get outputs q) refl (λ r below. list_from-steps s t r (omega arith) (omega arith))
      where
        go : (o : Option (Output V)) → slice_get outputs q ≡ o → ((r : ℕ) → r ≤ q → list_from outputs s r ≡ list_from outputs t r) → list_step outputs o (λ r. list_from outputs s r) ≡ list_step outputs o (λ r. list_from outputs t r)
        go None is more = refl
        go (Some o) is more = ap (λ l. (value_of o, length_of o) ∷ l) (more (parent_of o) (falls q o is))

    -- the output at a position, and then those from its parent on
    pub outputs_at-step : (q : ℕ) (o : Output V) → slice_get outputs q ≡ Some o → outputs_at outputs (suc q) ≡ (value_of o, length_of o) ∷ outputs_at outputs (parent_of o)
    outputs_at-step q o is =
        ap (λ x. list_step outputs x (λ r. list_from outputs q r)) is ∙ ap (λ l. (value_of o, length_of o) ∷ l) (list_from-steps q (parent_of o) (parent_of o) (falls q o is) (omega arith))
