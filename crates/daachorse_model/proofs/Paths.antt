-- Walks, unit by unit from their end.
use Rattle.std.proofs.Common.{◌≡◌, ℕ, false, List, [], ◌∷◌, ◌++◌, Option, Some, None, option_and_then, is_some, refl, sym, ap, ◌∙◌}
use Rattle.std.proofs.lemmas.Option.{option_and_then_some}
use Rattle.daachorse_model.specs.Paths.{walk, is_reached}

module _ {A : Type 0} (child : ℕ → A → Option ℕ) where
  -- a walk goes on where the first part ends
  pub walk-append : (s : ℕ) (xs ys : List A) → walk child s (xs ++ ys) ≡ option_and_then (λ t. walk child t ys) (walk child s xs)
  walk-append s [] ys = refl
  walk-append s (c ∷ cs) ys =
      elim (child s c) as (λ o. option_and_then (λ t. walk child t (cs ++ ys)) o ≡ option_and_then (λ t. walk child t ys) (option_and_then (λ t. walk child t cs) o))
      [ None ↦ refl | Some t ↦ walk-append t cs ys ]

  and_then_some : (o : Option ℕ) → option_and_then (λ t. Some t) o ≡ o
  and_then_some None = refl
  and_then_some (Some t) = refl

  -- one label more
  pub walk-push : (s : ℕ) (xs : List A) (c : A) (t : ℕ) → walk child s xs ≡ Some t → walk child s (xs ++ c ∷ []) ≡ child t c
  walk-push s xs c t h =
      walk-append s xs (c ∷ []) ∙ ap (λ o. option_and_then (λ u. walk child u (c ∷ [])) o) h ∙ and_then_some (child t c)

  -- the parts of a walk that ends with a label
  pub push-parts : (s : ℕ) (xs : List A) (c : A) (t : ℕ) → walk child s (xs ++ c ∷ []) ≡ Some t → (p : ℕ) × (walk child s xs ≡ Some p) × (child p c ≡ Some t)
  push-parts s xs c t h =
      option_and_then_some (λ u. walk child u (c ∷ [])) (walk child s xs) t (sym (walk-append s xs (c ∷ [])) ∙ h)
      (λ p e k. (p, e, sym (and_then_some (child p c)) ∙ k))

  none_and_then : (f : ℕ → Option ℕ) (o : Option ℕ) → is_some o ≡ false → is_some (option_and_then f o) ≡ false
  none_and_then f None h = refl
  none_and_then f (Some t) h = cc

  -- what is no state's text has no longer one
  pub is_reached-push : (w : List A) (c : A) → is_reached child w ≡ false → is_reached child (w ++ c ∷ []) ≡ false
  is_reached-push w c h =
      ap is_some (walk-append 0 w (c ∷ [])) ∙ none_and_then (λ u. walk child u (c ∷ [])) (walk child 0 w) h
