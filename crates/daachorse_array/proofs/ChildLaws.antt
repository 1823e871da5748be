-- What a label leads to in a double array: the element `base XOR label`, if its check is right. Nothing past the end matters.
use Rattle.std.proofs.Common.{◌≡◌, ◌≢◌, ℕ, ◌<◌, Bool, true, false, cond, ◌==◌, nat_lt, bit_xor, Option, Some, None, refl, sym, ap, ◌∙◌, arith}
use Rattle.std.proofs.lemmas.Option.{same_Some}

-- from a base, of n elements, where the check has to be `right`
abbrev pub child_at : ℕ → (ℕ → ℕ) → ℕ → ℕ → ℕ → Option ℕ
child_at n check right base c =
    let j = bit_xor base c in cond (base == 0) None (cond (nat_lt j n) (cond (check j == right) (Some j) None) None)

-- a choice by three tests that takes the last way
last_way : (a b d : Bool) (k j : ℕ) → cond a None (cond b (cond d (Some k) None) None) ≡ Some j → (b ≡ true) × (d ≡ true) × (k ≡ j)
last_way true b d k j e = absurd (cc)
last_way false false d k j e = absurd (cc)
last_way false true false k j e = absurd (cc)
last_way false true true k j e = (refl, refl, same_Some k j e)

takes_last : (a b d : Bool) (k : ℕ) → a ≡ false → b ≡ true → d ≡ true → cond a None (cond b (cond d (Some k) None) None) ≡ Some k
takes_last a b d k p q r = rw (p, q, r) refl

module _ (n : ℕ) where
  -- a child is an element, and its check is right
  pub child_at-inside : (right base c j : ℕ) (check : ℕ → ℕ) → child_at n check right base c ≡ Some j → (j < n) × (check j ≡ right)
  child_at-inside right base c j check e =
      let k : ℕ = bit_xor base c in
      let parts = last_way (base == 0) (nat_lt k n) (check k == right) k j e in
      let same : k ≡ j = parts.2 in
      let below : k < n = grind (arith, parts.0) in
      let found : check k ≡ right = grind (arith, parts.1) in
      (omega (arith, below, same), ap check (sym same) ∙ found)

  -- the base of a parent is not 0, and leads by the label to the child
  pub child_at-from : (right base c j : ℕ) (check : ℕ → ℕ) → child_at n check right base c ≡ Some j → (base ≢ 0) × (bit_xor base c ≡ j)
  child_at-from right base c j check e =
      let k : ℕ = bit_xor base c in
      (λ zero. none (base == 0) (grind (arith, zero)) e, (last_way (base == 0) (nat_lt k n) (check k == right) k j e).2)
    where
      none : (a : Bool) → a ≡ true → cond a None (cond (nat_lt (bit_xor base c) n) (cond (check (bit_xor base c) == right) (Some (bit_xor base c)) None) None) ≡ Some j → ⊥
      none true p e = cc
      none false p e = cc

  pub child_at-some : (right base c j : ℕ) (check : ℕ → ℕ) → base ≢ 0 → bit_xor base c ≡ j → j < n → check j ≡ right → child_at n check right base c ≡ Some j
  child_at-some right base c j check some at below found =
      let k : ℕ = bit_xor base c in
      let inside : k < n = omega (arith, below, at) in
      let is : check k ≡ right = ap check at ∙ found in
      let first : (base == 0) ≡ false = grind (arith, some) in
      let second : nat_lt k n ≡ true = grind (arith, inside) in
      let third : (check k == right) ≡ true = grind (arith, is) in
      takes_last (base == 0) (nat_lt k n) (check k == right) k first second third ∙ ap (λ x. Some x) at

  -- only the checks of elements matter
  pub child_at-same : (right base c : ℕ) (f g : ℕ → ℕ) → ((j : ℕ) → j < n → f j ≡ g j) → child_at n f right base c ≡ child_at n g right base c
  child_at-same right base c f g same = go (base == 0) (nat_lt (bit_xor base c) n) refl
    where
      go : (a b : Bool) → nat_lt (bit_xor base c) n ≡ b
          → cond a None (cond b (cond (f (bit_xor base c) == right) (Some (bit_xor base c)) None) None) ≡ cond a None (cond b (cond (g (bit_xor base c) == right) (Some (bit_xor base c)) None) None)
      go true b is = refl
      go false false is = refl
      go false true is = ap (λ k. cond (k == right) (Some (bit_xor base c)) None) (same (bit_xor base c) (grind (arith, is)))
