-- Which bits of a byte are 0 after each step of the code.
use Rattle.std.proofs.Common.{◌≡◌, ◌≢◌, ℕ, ◌+◌, ◌-◌, ◌*◌, ◌/◌, ◌%◌, ◌^◌, ◌<◌, ◌≤◌, ◌⊎◌, inl, inr, true, false, Bool, ◌&&◌, refl, sym, ap, ◌∙◌, arith}
use Rattle.std.specs.Prelude.{◌==◌, ◌||◌, max, min, bit_and, bit_or}
use Rattle.std.specs.Int.{bit_at, bit_not, w8, w32, w64}
use Rattle.std.proofs.lemmas.Bool.{eq-eqb, or_right}
use Rattle.std.proofs.lemmas.Bool.Decides.{eqb_tells, nat_tests}
use Rattle.std.proofs.lemmas.Nat.{pow_pos, mod_below}
use Rattle.std.proofs.lemmas.Nat.Bits.{bit_at_and, bit_at_or, bit_at_not, bit_at-zero, bit_at_cat_low, bit_at_cat_high, bit_at_ones, bit_at_ones_above, bit_at_above, bit_at-lt, bit_at_clear_same, bit_at_clear_other, same_from_bits_below}
use lib.Bits.{and_mask}
use Rattle.std.proofs.Math.Nat.{div-add-mod'}
use Rattle.daachorse_model.specs.Filter.{is_clear}

both_zero : (x y : ℕ) → (max x y == 0) ≡ ((x == 0) && (y == 0))
both_zero x y = grind (arith, nat_tests)

pub is_clear-or : (a b j : ℕ) → is_clear (bit_or a b) j ≡ (is_clear a j && is_clear b j)
is_clear-or a b j = ap (λ n. n == 0) (bit_at_or a b j) ∙ both_zero (bit_at a j) (bit_at b j)

one_zero : (x y : ℕ) → (min x y == 0) ≡ ((x == 0) || (y == 0))
one_zero x y = grind (arith, nat_tests)

pub is_clear-and : (a b j : ℕ) → is_clear (bit_and a b) j ≡ (is_clear a j || is_clear b j)
is_clear-and a b j = ap (λ n. n == 0) (bit_at_and a b j) ∙ one_zero (bit_at a j) (bit_at b j)

in_width : (n i : ℕ) → i < 32 → bit_at (n % 2 ^ 32) i ≡ bit_at n i
in_width n i h =
    let whole : n / 4294967296 * 2 ^ 32 + n % 4294967296 ≡ n = omega arith in
    sym (bit_at_cat_low (n / 4294967296) 32 (n % 4294967296) i h) ∙ ap (λ m. bit_at m i) whole

bit_at_shifted_below : (n k i : ℕ) → i < k → bit_at (n * 2 ^ k) i ≡ 0
bit_at_shifted_below n k i h =
    let none : n * 2 ^ k + 0 ≡ n * 2 ^ k = omega arith in
    ap (λ m. bit_at m i) (sym none) ∙ bit_at_cat_low n k 0 i h ∙ bit_at-zero i

bit_at_shifted : (n k i : ℕ) → bit_at (n * 2 ^ k) (k + i) ≡ bit_at n i
bit_at_shifted n k i =
    let none : n * 2 ^ k + 0 ≡ n * 2 ^ k = omega arith in
    let back : k + i - k ≡ i = omega arith in
    ap (λ m. bit_at m (k + i)) (sym none) ∙ bit_at_cat_high n k 0 (k + i) (pow_pos k) (omega arith) ∙ ap (λ j. bit_at n j) back

-- a shift by k moves each bit up by k, and the bits below are 0
pub is_clear_shifted_below : (n k i : ℕ) → i < k → i < 32 → is_clear ((n * 2 ^ k) % 2 ^ 32) i ≡ true
is_clear_shifted_below n k i h within = eq-eqb _ 0 (in_width (n * 2 ^ k) i within ∙ bit_at_shifted_below n k i h)

pub is_clear_shifted : (n k i : ℕ) → k + i < 32 → is_clear ((n * 2 ^ k) % 2 ^ 32) (k + i) ≡ is_clear n i
is_clear_shifted n k i within = ap (λ b. b == 0) (in_width (n * 2 ^ k) (k + i) within ∙ bit_at_shifted n k i)

pub is_clear_ones : (j : ℕ) → j < 8 → is_clear 255 j ≡ false
is_clear_ones j h = ap (λ b. b == 0) (bit_at_ones 8 j h)

-- no bit of 0 is set
pub is_clear_zero : (j : ℕ) → is_clear 0 j ≡ true
is_clear_zero j = eq-eqb _ 0 (let p = pow_pos j in omega arith)

-- the complement in 32 bits
pub is_clear_not : (n i : ℕ) → n < 2 ^ 32 → i < 32 → is_clear (bit_not w32 n) i ≡ (bit_at n i == 1)
is_clear_not n i h within = ap (λ b. b == 0) (bit_at_not w32 n i h within) ∙ other (bit_at n i) (bit_at-lt n i)
  where
    other : (b : ℕ) → b < 2 → (1 - b == 0) ≡ (b == 1)
    other b h = grind (arith, nat_tests)

pub clear_is_not_set : (n i : ℕ) → is_clear n i ≡ true → (bit_at n i == 1) ≡ false
clear_is_not_set n i e = grind (arith, nat_tests)

pub not_set_is_clear : (n i : ℕ) → (bit_at n i == 1) ≡ false → is_clear n i ≡ true
not_set_is_clear n i e = let two = bit_at-lt n i in grind (arith, nat_tests)

-- the k bits of a mask of ones
pub is_clear_mask : (k i : ℕ) → i < k → is_clear (2 ^ k - 1) i ≡ false
is_clear_mask k i h = ap (λ b. b == 0) (bit_at_ones k i h)

pub is_clear_mask_above : (k i : ℕ) → k ≤ i → is_clear (2 ^ k - 1) i ≡ true
is_clear_mask_above k i h = ap (λ b. b == 0) (bit_at_ones_above k i h)

pub is_clear_cleared_same : (n k : ℕ) → k < 8 → is_clear (bit_and n (bit_not w8 (1 * 2 ^ k % 2 ^ 8))) k ≡ true
is_clear_cleared_same n k h = eq-eqb _ 0 (bit_at_clear_same w8 n k h)

pub is_clear_cleared_other : (n k j : ℕ) → k < 8 → j < 8 → j ≢ k → is_clear (bit_and n (bit_not w8 (1 * 2 ^ k % 2 ^ 8))) j ≡ is_clear n j
is_clear_cleared_other n k j h hj ne = ap (λ b. b == 0) (bit_at_clear_other w8 n k h j hj ne)

same_bit : (x y : ℕ) → x < 2 → y < 2 → (x == 0) ≡ (y == 0) → x ≡ y
same_bit x y hx hy e = grind (arith, nat_tests)

-- two bytes with the same bits 0
pub same_from_clear : (a b : ℕ) → a < 2 ^ 8 → b < 2 ^ 8 → ((j : ℕ) → j < 8 → is_clear a j ≡ is_clear b j) → a ≡ b
same_from_clear a b ha hb e = same_from_bits_below 8 a b ha hb (λ j h. same_bit (bit_at a j) (bit_at b j) (bit_at-lt a j) (bit_at-lt b j) (e j h))

-- a shift by k moves each bit down by k
pub is_clear_shr : (n k i : ℕ) → is_clear (n / 2 ^ k) i ≡ is_clear n (k + i)
is_clear_shr n k i =
    let back : k + i - k ≡ i = omega arith in
    ap (λ b. b == 0) (ap (λ j. bit_at (n / 2 ^ k) j) (sym back)
    ∙ sym (bit_at_cat_high (n / 2 ^ k) k (n % 2 ^ k) (k + i) (mod_below n (2 ^ k) (pow_pos k)) (omega arith))
    ∙ ap (λ m. bit_at m (k + i)) (div-add-mod' n (2 ^ k)))

-- a number of 64 bits has no others
pub is_clear_above : (n i : ℕ) → n < 2 ^ 64 → 64 ≤ i → is_clear n i ≡ true
is_clear_above n i h above = eq-eqb _ 0 (bit_at_above n 64 i h above)

-- the lower k bits are all 1 just where they are the number of k ones
pub low_ones : (n k i : ℕ) → bit_and n (2 ^ k - 1) ≡ 2 ^ k - 1 → i < k → is_clear n i ≡ false
low_ones n k i e h = first_false (is_clear n i) (is_clear (2 ^ k - 1) i) (sym (is_clear-and n (2 ^ k - 1) i) ∙ ap (λ m. is_clear m i) e ∙ is_clear_mask k i h)
  where
    first_false : (a b : Bool) → (a || b) ≡ false → a ≡ false
    first_false true b e = e
    first_false false b e = refl

pub ones_low : (n k : ℕ) → ((i : ℕ) → i < k → is_clear n i ≡ false) → bit_and n (2 ^ k - 1) ≡ 2 ^ k - 1
ones_low n k set =
    same_from_bits_below k (bit_and n (2 ^ k - 1)) (2 ^ k - 1)
    (let m = and_mask n k in let below = mod_below n (2 ^ k) (pow_pos k) in omega arith)
    (let p = pow_pos k in omega arith)
    (λ i h. bit_at_and n (2 ^ k - 1) i ∙ both_one (bit_at n i) (bit_at (2 ^ k - 1) i) (set i h) (bit_at-lt n i) (bit_at_ones k i h))
  where
    both_one : (x y : ℕ) → (x == 0) ≡ false → x < 2 → y ≡ 1 → min x y ≡ y
    both_one x y e h one = grind (arith, nat_tests)

-- a bit that is masked out is 0, and each other as it was
pub is_clear_unset : (n k i : ℕ) → k < 64 → i < 64 → is_clear (bit_and n (bit_not w64 (1 * 2 ^ k % 2 ^ 64))) i ≡ (is_clear n i || (i == k))
is_clear_unset n k i h within = by (eqb_tells i k)
  where
    or_false : (a b : Bool) → b ≡ false → (a || b) ≡ a
    or_false true b e = refl
    or_false false b e = e

    by : ((i == k) ≡ true) × (i ≡ k) ⊎ ((i == k) ≡ false) × (i ≢ k) → is_clear (bit_and n (bit_not w64 (1 * 2 ^ k % 2 ^ 64))) i ≡ (is_clear n i || (i == k))
    by (inl (test, same)) =
        ap (λ j. is_clear (bit_and n (bit_not w64 (1 * 2 ^ k % 2 ^ 64))) j) same ∙ eq-eqb _ 0 (bit_at_clear_same w64 n k h)
        ∙ sym (or_right (is_clear n i) (i == k) test)
    by (inr (test, other)) = ap (λ b. b == 0) (bit_at_clear_other w64 n k h i within other) ∙ sym (or_false (is_clear n i) (i == k) test)
