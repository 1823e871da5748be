-- Two dictionaries with the same keys have the same links, and where there is no key no link is dead: it is the longest end.
use Rattle.std.proofs.Common.{◌≡◌, ℕ, Bool, true, false, cond, List, [], ◌∷◌, ◌++◌, Some, None, refl, ap, ◌∙◌, arith}
use Rattle.daachorse_model.specs.Dictionary.{Dictionary}
use Rattle.daachorse_model.specs.Prefixes.{is_key, key_begins, left_fail, long, long_unless_key}

module _ {V W : Type 0} (K : Dictionary V) (L : Dictionary W) (same : (w : List ℕ) → is_key K w ≡ is_key L w) where
  begins_same : (t w : List ℕ) → key_begins K t w ≡ key_begins L t w
  begins_same t [] = same t
  begins_same t (u ∷ w) = ap (λ b. cond b true (key_begins K (t ++ u ∷ []) w)) (same t) ∙ ap (λ b. cond (is_key L t) true b) (begins_same (t ++ u ∷ []) w)

  module _ (known : List ℕ → Bool) where
    long_same : (w : List ℕ) → long_unless_key K known w ≡ long_unless_key L known w
    long_same [] = refl
    long_same (u ∷ w) = grind (arith, begins_same [] (u ∷ w), long_same w)

    -- the same keys, the same links
    pub left_fail-same : (w : List ℕ) → left_fail K known w ≡ left_fail L known w
    left_fail-same [] = refl
    left_fail-same (u ∷ w) = grind (arith, begins_same [] (u ∷ w), long_same w)

module _ {V : Type 0} (K : Dictionary V) (none : (w : List ℕ) → is_key K w ≡ false) where
  begins_none : (t w : List ℕ) → key_begins K t w ≡ false
  begins_none t [] = none t
  begins_none t (u ∷ w) = ap (λ b. cond b true (key_begins K (t ++ u ∷ []) w)) (none t) ∙ begins_none (t ++ u ∷ []) w

  module _ (known : List ℕ → Bool) where
    long_none : (w : List ℕ) → long_unless_key K known w ≡ Some (long known w)
    long_none [] = refl
    long_none (u ∷ w) = grind (arith, begins_none [] (u ∷ w), long_none w)

    -- with no key a link is the longest end
    pub left_fail-none : (u : ℕ) (w : List ℕ) → left_fail K known (u ∷ w) ≡ Some (long known w)
    left_fail-none u w = ap (λ b. cond b None (long_unless_key K known w)) (begins_none [] (u ∷ w)) ∙ long_none w
