-- Each window that passes in a round has its bit set in one number, and one that begins before another has a higher bit.
use Rattle.std.proofs.Common.{◌≡◌, ◌≢◌, ℕ, zero, suc, ◌+◌, ◌-◌, ◌*◌, ◌%◌, ◌^◌, ◌<◌, ◌≤◌, ◌⊎◌, Bool, true, false, List, length, refl, sym, ap, ◌∙◌, inl, inr, arith}
use Rattle.std.specs.Prelude.{◌==◌, ◌||◌, bit_and}
use Rattle.std.specs.Int.{bit_at, bit_not, w32}
use Rattle.std.specs.Int.Count.{count_leading_zeros}
use Rattle.std.proofs.lemmas.Bool.{cases_lt, false≢true}
use Rattle.std.proofs.Math.Pow.{pow_mono}
use Rattle.std.proofs.lemmas.Nat.{leading_top}
use Rattle.std.proofs.lemmas.Nat.Bits.{bit_at-zero, bit_at_cat_high}
use Rattle.daachorse_model.specs.Filter.{is_clear, passes}
use Rattle.daachorse_prefilter.specs.Places.{IsFirstPlace}
use Rattle.daachorse_prefilter.specs.Scans.{has_begun, HasEnded, IsFirstWindow, NonePasses}
use Rattle.daachorse_prefilter.proofs.ClearBits.{is_clear-and, is_clear_not, is_clear_shifted, is_clear_shifted_below, is_clear_mask, is_clear_mask_above, clear_is_not_set, not_set_is_clear}
use Rattle.daachorse_prefilter.proofs.Scanned.{entry_in, begins_behind, none_more, found}

-- the bits that tell of the windows of a round of n pairs
abbrev pub end_bits : ℕ → ℕ → ℕ
end_bits last n = ((1 * 2 ^ n % 2 ^ 32 - 1) * 2 ^ last) % 2 ^ 32

-- those of them that are 0 in the state
abbrev pub passing_bits : ℕ → ℕ → ℕ → ℕ
passing_bits last n r = bit_and (bit_not w32 r) (end_bits last n)

-- as many ones as there are pairs
ones_is : (n : ℕ) → n ≤ 16 → 1 * 2 ^ n % 2 ^ 32 - 1 ≡ 2 ^ n - 1
ones_is n few = let small : 2 ^ n ≤ 2 ^ 16 = pow_mono few in omega arith

end_bit : (last n d : ℕ) → last ≤ 7 → n ≤ 16 → d < n → is_clear (end_bits last n) (last + d) ≡ false
end_bit last n d small few h = is_clear_shifted (1 * 2 ^ n % 2 ^ 32 - 1) last d (omega arith) ∙ ap (λ m. is_clear m d) (ones_is n few) ∙ is_clear_mask n d h

end_bit_above : (last n d : ℕ) → last + d < 32 → n ≤ 16 → n ≤ d → is_clear (end_bits last n) (last + d) ≡ true
end_bit_above last n d small few h = is_clear_shifted (1 * 2 ^ n % 2 ^ 32 - 1) last d small ∙ ap (λ m. is_clear m d) (ones_is n few) ∙ is_clear_mask_above n d h

left_of : (x y : Bool) → y ≡ false → (x || y) ≡ x
left_of true y e = refl
left_of false y e = e

left_false : (x y : Bool) → (x || y) ≡ false → x ≡ false
left_false false y e = refl
left_false true y e = absurd (cc)

right_false : (x y : Bool) → (x || y) ≡ false → y ≡ false
right_false false y e = e
right_false true y e = absurd (cc)

-- the highest bit of a number
top_bit : (p j : ℕ) → 2 ^ j ≤ p → p < 2 ^ suc j → is_clear p j ≡ false
top_bit p j low high =
    let whole : 1 * 2 ^ j + (p - 2 ^ j) ≡ p = omega arith in
    let first : j - j ≡ 0 = omega arith in
    ap (λ n. is_clear n j) (sym whole) ∙ ap (λ b. b == 0) (bit_at_cat_high 1 j (p - 2 ^ j) j (omega arith) (omega arith) ∙ ap (λ n. bit_at 1 n) first)

pub above_top : (p j b : ℕ) → p < 2 ^ suc j → j < b → is_clear p b ≡ true
above_top p j b high h =
    let whole : 0 * 2 ^ suc j + p ≡ p = omega arith in
    ap (λ n. is_clear n b) (sym whole) ∙ ap (λ n. n == 0) (bit_at_cat_high 0 (suc j) p b high (omega arith) ∙ bit_at-zero (b - suc j))

-- where a bit of a number of 32 bits is that is set
set_within : (p b : ℕ) → p < 2 ^ 32 → is_clear p b ≡ false → b < 32
set_within p b small set = by (cases_lt b 32)
  where
    by : (b < 32) ⊎ (32 ≤ b) → b < 32
    by (inl less) = less
    by (inr above) = absurd (false≢true (sym set ∙ above_top p 31 b small (omega arith)))

-- the highest bit of a number that is not 0
pub record IsHighest (p j : ℕ) : Type 0 where
  pub within : j < 32
  pub set : is_clear p j ≡ false
  pub none : (b : ℕ) → j < b → is_clear p b ≡ true

pub highest : (p : ℕ) → p ≢ 0 → p < 2 ^ 32 → IsHighest p (31 - count_leading_zeros 32 p) × (count_leading_zeros 32 p ≤ 31)
highest p some small =
    let (j, sum, low, high) = leading_top 32 p (positive some) small in
    let at : 31 - count_leading_zeros 32 p ≡ j = omega arith in
    (rw at record { within = omega arith; set = top_bit p j low high; none = λ b h. above_top p j b high h }, omega arith)
  where
    positive : p ≢ 0 → 0 < p
    positive h = omega arith

-- the highest bit of those that are set is that of the first window
pub first_window : (e passing : ℕ) → passing ≢ 0 → passing < 2 ^ 32 → IsFirstWindow e passing (e - (31 - count_leading_zeros 32 passing))
first_window e passing some small = let top = (highest passing some small).0 in record { window = 31 - count_leading_zeros 32 passing; set = top.set; begins = refl; earlier = top.none }

-- the round of the bytes behind a place ended in the state r
module _ (entries h : List ℕ) (last n pos place r : ℕ) (small : last ≤ 7) (few : n ≤ 16) (hr : r < 2 ^ 32) (inside : place + n < length h) (ends : HasEnded entries h last pos (place + 1) n r) where
  -- the bit of window k tells whether it has begun
  begun_is : (k i : ℕ) → k < n → i ≡ place + k + 2 → is_clear r (last + (n - 1 - k)) ≡ has_begun entries h pos i last
  begun_is k i less e =
      let at : place + 1 + n - (n - 1 - k) ≡ i = omega arith in
      ends.ends (n - 1 - k) (omega arith) ∙ ap (λ p. has_begun entries h pos p last) at

  -- a window that has begun is among those that pass
  among_passing : (k : ℕ) → k < n → is_clear r (last + (n - 1 - k)) ≡ true → is_clear (passing_bits last n r) (last + (n - 1 - k)) ≡ false
  among_passing k less clear =
      is_clear-and (bit_not w32 r) (end_bits last n) (last + (n - 1 - k))
      ∙ left_of (is_clear (bit_not w32 r) (last + (n - 1 - k))) (is_clear (end_bits last n) (last + (n - 1 - k))) (end_bit last n (n - 1 - k) small few (omega arith))
      ∙ is_clear_not r (last + (n - 1 - k)) hr (omega arith)
      ∙ clear_is_not_set r (last + (n - 1 - k)) clear

  -- where the bit of one that passes is
  record HasWindow (b : ℕ) : Type 0 where
    low : last ≤ b
    high : b < last + n
    begun : is_clear r b ≡ true

  window_of : (b : ℕ) → is_clear (passing_bits last n r) b ≡ false → HasWindow b
  window_of b e =
      let bit : is_clear (end_bits last n) b ≡ false = right_false (is_clear (bit_not w32 r) b) (is_clear (end_bits last n) b) (sym (is_clear-and (bit_not w32 r) (end_bits last n) b) ∙ e) in
      let unset : is_clear (bit_not w32 r) b ≡ false = left_false (is_clear (bit_not w32 r) b) (is_clear (end_bits last n) b) (sym (is_clear-and (bit_not w32 r) (end_bits last n) b) ∙ e) in
      let within : b < 32 = set_within (end_bits last n) b (omega arith) bit in
      record {
        low = low bit within (cases_lt b last);
        high = high bit within (cases_lt b (last + n));
        begun = not_set_is_clear r b (sym (is_clear_not r b hr within) ∙ unset);
      }
    where
      low : is_clear (end_bits last n) b ≡ false → b < 32 → (b < last) ⊎ (last ≤ b) → last ≤ b
      low bit within (inl below) = let none = is_clear_shifted_below (1 * 2 ^ n % 2 ^ 32 - 1) last b below within in absurd (cc)
      low bit within (inr h) = h

      high : is_clear (end_bits last n) b ≡ false → b < 32 → (b < last + n) ⊎ (last + n ≤ b) → b < last + n
      high bit within (inl h) = h
      high bit within (inr above) =
          let place : last + (b - last) ≡ b = omega arith in
          let none : is_clear (end_bits last n) b ≡ true = ap (λ m. is_clear (end_bits last n) m) (sym place) ∙ end_bit_above last n (b - last) (omega arith) few (omega arith) in
          absurd (cc)

  begun_at : (b : ℕ) → HasWindow b → has_begun entries h pos (place + 1 + (last + n - 1 - b) + 1) last ≡ true
  begun_at b w =
      let low : last ≤ b = w.low in
      let high : b < last + n = w.high in
      let bit : last + (n - 1 - (last + n - 1 - b)) ≡ b = omega arith in
      sym (begun_is (last + n - 1 - b) (place + 1 + (last + n - 1 - b) + 1) (omega arith) (omega arith)) ∙ ap (λ n. is_clear r n) bit ∙ w.begun

  -- so it begins within the text
  pub begins_within : (b : ℕ) → is_clear (passing_bits last n r) b ≡ false → b ≤ place + n - 1
  begins_within b set =
      let w = window_of b set in
      let low : last ≤ b = w.low in
      let high : b < last + n = w.high in
      let behind = begins_behind entries h last pos (place + 1 + (last + n - 1 - b) + 1) (begun_at b w) in
      omega arith

  -- none of the first m windows of the round has its bit set
  none_until : (m : ℕ) → m ≤ n → NonePasses entries h (last + 2) pos (place + 1) → ((b : ℕ) → last + n - m ≤ b → is_clear (passing_bits last n r) b ≡ true) → NonePasses entries h (last + 2) pos (place + 1 + m)
  none_until zero part none clear = let same : place + 1 + zero ≡ place + 1 = omega arith in rw same none
  none_until (suc m) part none clear =
      let before = none_until m (omega arith) none (λ b low. clear b (omega arith)) in
      let end : place + 1 + suc m ≡ place + 1 + m + 1 = omega arith in
      let unset = clear (last + (n - 1 - m)) (omega arith) in
      rw end (none_more entries h last pos (place + 1 + m) (omega arith) (by (has_begun entries h pos (place + 1 + m + 1) last)
      (λ begun. false≢true (sym (among_passing m (omega arith) (begun_is m (place + 1 + m + 1) (omega arith) (omega arith) ∙ begun)) ∙ unset))) before)
    where
      by : (b : Bool) → (b ≡ true → ⊥) → b ≡ false
      by false never = refl
      by true never = absurd (never refl)

  -- none of the round has
  pub none_in_round : NonePasses entries h (last + 2) pos (place + 1) → ((b : ℕ) → is_clear (passing_bits last n r) b ≡ true) → NonePasses entries h (last + 2) pos (place + n + 1)
  none_in_round none clear =
      let end : place + n + 1 ≡ place + 1 + n = omega arith in
      rw end (none_until n (omega arith) none (λ b low. clear b))

  -- the first window of the round that passes is the first of all
  pub found_in_round : (p : ℕ) → NonePasses entries h (last + 2) pos (place + 1) → IsFirstWindow (place + n - 1) (passing_bits last n r) p → IsFirstPlace (passes (entry_in entries) (last + 2)) h pos p
  found_in_round p none is =
      let b = is.window in
      let w = window_of b is.set in
      let low : last ≤ b = w.low in
      let high : b < last + n = w.high in
      let k = last + n - 1 - b in
      let begins : p ≡ place + 1 + k + 1 - (last + 2) = omega (arith, is.begins) in
      rw begins (found entries h last pos (place + 1 + k) (omega arith) (begun_at b w)
      (none_until k (omega arith) none (λ i above. is.earlier i (omega arith))))
