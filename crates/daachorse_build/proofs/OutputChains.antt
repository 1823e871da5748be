-- Chains of outputs: since parents fall, as many steps as a position says are enough, and outputs that come later change nothing.
use Rattle.std.proofs.Common.{◌≡◌, ℕ, zero, suc, ◌+◌, ◌<◌, ◌≤◌, ◌⊎◌, List, [], ◌∷◌, ◌++◌, length, Option, Some, None, refl, ap, ◌∙◌, inl, inr, add-one, arith}
use Rattle.std.proofs.lemmas.Option.{none-some, same_Some}
use Rattle.std.specs.List.{slice_get}
use Rattle.daachorse_core.specs.declared.outputs.Output.{Output}
use Rattle.daachorse_core.proofs.OutputLists.{list_from-steps}
use Rattle.daachorse_core.specs.Outputs.{value_of, length_of, parent_of, list_step, list_from, outputs_at, ParentsFall}

pub slice_get_left : {X : Type 0} (xs ys : List X) (i : ℕ) → i < length xs → slice_get (xs ++ ys) i ≡ slice_get xs i
slice_get_left [] ys i h = absurd (omega arith)
slice_get_left (x ∷ xs) ys zero h = refl
slice_get_left (x ∷ xs) ys (suc i) h = slice_get_left xs ys i (omega arith)

pub slice_get_last : {X : Type 0} (xs : List X) (x : X) → slice_get (xs ++ x ∷ []) (length xs) ≡ Some x
slice_get_last [] x = refl
slice_get_last (y ∷ xs) x = slice_get_last xs x

-- what stands in a list with one element more
push_cases : {X : Type 0} (xs : List X) (y : X) (i : ℕ) (x : X) → slice_get (xs ++ y ∷ []) i ≡ Some x → (slice_get xs i ≡ Some x) ⊎ ((i ≡ length xs) × (y ≡ x))
push_cases [] y zero x h = inr (refl, same_Some y x h)
push_cases [] y (suc i) x h = absurd (none-some x h)
push_cases (z ∷ xs) y zero x h = inl h
push_cases (z ∷ xs) y (suc i) x h =
    elim (push_cases xs y i x h) [ inl old ↦ inl old | inr new ↦ inr (ap suc new.0, new.1) ]

module _ {V : Type 0} where
  step_same : (os outputs : List (Output V)) (q : ℕ) (f g : ℕ → List (V × ℕ)) → ((o : Output V) → slice_get outputs q ≡ Some o → f (parent_of o) ≡ g (parent_of o)) → (o : Option (Output V)) → slice_get outputs q ≡ o → list_step os o f ≡ list_step outputs o g
  step_same os outputs q f g same None e = refl
  step_same os outputs q f g same (Some o) e = ap (λ l. (value_of o, length_of o) ∷ l) (same o e)

  list_longer : (outputs more : List (Output V)) → ParentsFall outputs → (n p : ℕ) → p ≤ length outputs → list_from (outputs ++ more) n p ≡ list_from outputs n p
  list_longer outputs more fall zero p h = refl
  list_longer outputs more fall (suc n) zero h = refl
  list_longer outputs more fall (suc n) (suc q) h =
      ap (λ (o : Option (Output V)). list_step (outputs ++ more) o (list_from (outputs ++ more) n)) (slice_get_left outputs more q (omega arith))
      ∙ step_same (outputs ++ more) outputs q (list_from (outputs ++ more) n) (list_from outputs n)
      (λ o e. let falls = fall q o e in list_longer outputs more fall n (parent_of o) (omega (arith, falls, h)))
      (slice_get outputs q) refl

  -- a list stays where outputs are added
  pub outputs_at-longer : (outputs more : List (Output V)) (p : ℕ) → ParentsFall outputs → p ≤ length outputs → outputs_at (outputs ++ more) p ≡ outputs_at outputs p
  outputs_at-longer outputs more p fall h = list_longer outputs more fall p p h

  -- one output in front of a list
  pub outputs_at-push : (outputs : List (Output V)) (o : Output V) (x : V × ℕ) (last p : ℕ) → ParentsFall outputs → value_of o ≡ x.0 → length_of o ≡ x.1 → parent_of o ≡ last → last ≤ length outputs → p ≡ length outputs + 1 → outputs_at (outputs ++ o ∷ []) p ≡ x ∷ outputs_at outputs last
  outputs_at-push outputs o x last p fall value len parent low e =
      let n = length outputs in
      let at : p ≡ suc n = e ∙ add-one n in
      let fits : parent_of o ≤ n = omega (arith, parent) in
      ap (λ q. outputs_at (outputs ++ o ∷ []) q) at
      ∙ ap (λ (y : Option (Output V)). list_step (outputs ++ o ∷ []) y (λ r. list_from (outputs ++ o ∷ []) n r)) (slice_get_last outputs o)
      ∙ ap (λ l. (value_of o, length_of o) ∷ l) (list_longer outputs (o ∷ []) fall n (parent_of o) fits ∙ list_from-steps outputs fall n (parent_of o) (parent_of o) fits (omega arith))
      ∙ ap (λ v. (v, length_of o) ∷ outputs_at outputs (parent_of o)) value
      ∙ ap (λ m. (x.0, m) ∷ outputs_at outputs (parent_of o)) len
      ∙ ap (λ q. x ∷ outputs_at outputs q) parent

  pub ParentsFall-nil : ParentsFall {V = V} []
  ParentsFall-nil i o h = absurd (none-some o h)

  pub ParentsFall-push : (outputs : List (Output V)) (o : Output V) (last : ℕ) → ParentsFall outputs → parent_of o ≡ last → last ≤ length outputs → ParentsFall (outputs ++ o ∷ [])
  ParentsFall-push outputs o last fall parent low i x h =
      elim (push_cases outputs o i x h) [
        | inl old ↦ fall i x old
        | inr new ↦ omega (arith, ap (λ y. parent_of y) new.1, parent, new.0, low)
      ]
