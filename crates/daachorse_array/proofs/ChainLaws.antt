-- The outputs from a position on: those of one length that come first, and then what the chain goes on with.
use Rattle.std.proofs.Common.{◌≡◌, ℕ, zero, suc, ◌≤◌, Bool, true, false, ◌==◌, List, ◌∷◌, ◌++◌, map, Option, Some, None, refl, ap, ◌∙◌, arith}
use Rattle.std.specs.Prelude.{slice_get}
use Rattle.daachorse_core.specs.declared.outputs.Output.{Output}
use Rattle.daachorse_core.specs.Outputs.{value_of, length_of, parent_of, outputs_at, ParentsFall}
use Rattle.daachorse_core.proofs.OutputLists.{outputs_at-step}
use Rattle.daachorse_array.specs.Machines.{own_next, own_step, own_from}

module _ {V : Type 0} (outputs : List (Output V)) (falls : ParentsFall outputs) where
  -- a part of a chain: values of one length, and the rest
  abbrev Splits : ℕ → ℕ → List (V × ℕ) → List V × ℕ → Type 0
  Splits n p all r = (r.1 ≤ p) × (all ≡ map (λ v. (v, n)) r.0 ++ outputs_at outputs r.1)

  own-splits : (s n p : ℕ) → p ≤ s → Splits n p (outputs_at outputs p) (own_from outputs s n p)
  own-splits zero n zero h = (h, refl)
  own-splits zero n (suc q) h = absurd (omega arith)
  own-splits (suc s) n zero h = (omega arith, refl)
  own-splits (suc s) n (suc q) h = go (slice_get outputs q) refl (λ r below. own-splits s n r (omega arith))
    where
      at : (o : Output V) (b : Bool) → slice_get outputs q ≡ Some o → (length_of o == n) ≡ b → Splits n (parent_of o) (outputs_at outputs (parent_of o)) (own_from outputs s n (parent_of o)) → Splits n (suc q) (outputs_at outputs (suc q)) (own_next outputs b o q (own_from outputs s n (parent_of o)))
      at o true is e rest =
          let below : (own_from outputs s n (parent_of o)).1 ≤ parent_of o = rest.0 in
          let falls_here : parent_of o ≤ q = falls q o is in
          let same : length_of o ≡ n = grind (arith, e) in
          (omega (arith, below, falls_here), outputs_at-step outputs falls q o is ∙ (ap (λ l. (value_of o, length_of o) ∷ l) rest.1 ∙ ap (λ k. (value_of o, k) ∷ (map (λ v. (v, n)) (own_from outputs s n (parent_of o)).0 ++ outputs_at outputs (own_from outputs s n (parent_of o)).1)) same))
      at o false is e rest = (omega arith, refl)

      go : (o : Option (Output V)) → slice_get outputs q ≡ o → ((r : ℕ) → r ≤ q → Splits n r (outputs_at outputs r) (own_from outputs s n r)) → Splits n (suc q) (outputs_at outputs (suc q)) (own_step outputs o n q (λ r. own_from outputs s n r))
      go None is more = (omega arith, refl)
      go (Some o) is more = at o (length_of o == n) is refl (more (parent_of o) (falls q o is))

  -- the outputs from a position on: the own values, and then those of what follows
  pub outputs_at-own : (n p : ℕ) → outputs_at outputs p ≡ map (λ v. (v, n)) (own_from outputs p n p).0 ++ outputs_at outputs (own_from outputs p n p).1
  outputs_at-own n p = (own-splits p n p (omega arith)).1
