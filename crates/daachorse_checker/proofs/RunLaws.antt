-- The chain of an output goes on behind those of its length where that of the next one does, if that has its length too.
use Rattle.std.proofs.Common.{◌≡◌, ℕ, zero, suc, ◌≤◌, ◌==◌, Bool, true, false, List, [], ◌∷◌, ◌++◌, length, Some, refl, sym, ap, ◌∙◌, inl, inr, arith}
use Rattle.std.specs.Prelude.{slice_get}
use Rattle.std.proofs.lemmas.Bool.{cases_lt, eq-eqb}
use Rattle.std.proofs.lemmas.List.{length_push, get_or_push, get_or_append_left}
use Rattle.std.proofs.lemmas.Option.{same_Some}
use Rattle.daachorse_core.specs.declared.outputs.Output.{Output}
use Rattle.daachorse_core.specs.Outputs.{length_of, parent_of, ParentsFall}
use Rattle.daachorse_array.specs.Machines.{own_next, own_step, own_from}
use Rattle.daachorse_checker.specs.Runs.{AreRuns, has_values}

module _ {V : Type 0} (outputs : List (Output V)) where
  -- what the output at position q + 1 gives
  at_output : (steps n q : ℕ) (o : Output V) → slice_get outputs q ≡ Some o → own_from outputs (suc steps) n (suc q) ≡ own_next outputs (length_of o == n) o q (own_from outputs steps n (parent_of o))
  at_output steps n q o is = ap (λ x. own_step outputs x n q (λ r. own_from outputs steps n r)) is

  -- as many steps as the position are enough
  steady : ParentsFall outputs → (s r n p : ℕ) → p ≤ s → p ≤ r → own_from outputs s n p ≡ own_from outputs r n p
  steady fall zero zero n p a b = refl
  steady fall zero (suc r) n zero a b = refl
  steady fall zero (suc r) n (suc q) a b = absurd (omega (arith, a))
  steady fall (suc s) zero n zero a b = refl
  steady fall (suc s) zero n (suc q) a b = absurd (omega (arith, b))
  steady fall (suc s) (suc r) n zero a b = refl
  steady fall (suc s) (suc r) n (suc q) a b = grind (arith, fall q, steady fall s r n)

  module _ (n p q : ℕ) (o : Output V) (e : p ≡ suc q) (is : slice_get outputs q ≡ Some o) where
    here : own_from outputs p n p ≡ own_next outputs (length_of o == n) o q (own_from outputs q n (parent_of o))
    here = ap (λ x. own_from outputs x n x) e ∙ at_output q n q o is

    pub own_is : (length_of o == n) ≡ has_values (own_from outputs p n p).0
    own_is = by (length_of o == n) ∙ sym (ap (λ (r : List V × ℕ). has_values r.0) here)
      where
        by : (b : Bool) → b ≡ has_values (own_next outputs b o q (own_from outputs q n (parent_of o))).0
        by true = refl
        by false = refl

  -- a run more
  pub runs_push : (runs : List ℕ) (run q : ℕ) (o : Output V) → AreRuns outputs runs → ParentsFall outputs → length runs ≡ q → slice_get outputs q ≡ Some o
      → run ≡ (own_from outputs (parent_of o) (length_of o) (parent_of o)).1 → AreRuns outputs (runs ++ run ∷ [])
  runs_push runs run q o are fall each is e k x less at = elim (cases_lt k (length runs)) [
    | inl a ↦ get_or_append_left runs (run ∷ []) 0 k a ∙ are k x a at
    | inr b ↦
        let same : k ≡ q = omega (arith, b, less, length_push runs run, each) in
        let one : o ≡ x = same_Some o x (sym is ∙ ap (slice_get outputs) (sym same) ∙ at) in
        let low : parent_of o ≤ q = fall q o is in
        let goes_on : (own_from outputs (suc q) (length_of o) (suc q)).1 ≡ (own_from outputs (parent_of o) (length_of o) (parent_of o)).1 =
        ap (λ (r : List V × ℕ). r.1) (at_output q (length_of o) q o is)
        ∙ ap (λ b. (own_next outputs b o q (own_from outputs q (length_of o) (parent_of o))).1) (eq-eqb (length_of o) (length_of o) refl)
        ∙ ap (λ (r : List V × ℕ). r.1) (steady fall q (parent_of o) (length_of o) (parent_of o) low (omega arith)) in
        get_or_push runs run 0 k (each ∙ sym same) ∙ e ∙ sym goes_on ∙ ap (λ i. (own_from outputs (suc i) (length_of o) (suc i)).1) (sym same) ∙ ap (λ (y : Output V). (own_from outputs (suc k) (length_of y) (suc k)).1) one
  ]
