-- Two pairs that are eight apart are taken at once: their entries stand side by side in one number, and its steps are those of both.
use Rattle.std.proofs.Common.{◌≡◌, ℕ, zero, suc, ◌+◌, ◌-◌, ◌*◌, ◌%◌, ◌^◌, ◌<◌, ◌≤◌, ◌⊎◌, Bool, true, false, ◌&&◌, List, length, refl, sym, ap, ◌∙◌, subst, inl, inr, arith}
use Rattle.std.specs.Prelude.{◌||◌, bit_and, bit_or}
use Rattle.std.proofs.lemmas.Bool.{cases_lt}
use Rattle.std.proofs.Math.Pow.{pow_mono}
use Rattle.daachorse_model.specs.Filter.{is_clear}
use Rattle.daachorse_prefilter.specs.Scans.{EndsRound}
use Rattle.daachorse_prefilter.proofs.ClearBits.{is_clear-and, is_clear-or, is_clear_shifted, is_clear_shifted_below}
use Rattle.daachorse_prefilter.proofs.Rounds.{above_top}
use Rattle.daachorse_prefilter.proofs.Scanned.{above_window, apart, ended_apart, next_first, next_later, next_state, states, states_more, states_none, window_bits, entry_in, pair_before}

-- two entries in one number
abbrev pub side_by_side : ℕ → ℕ → ℕ
side_by_side x y = bit_or ((x * 2 ^ 8) % 2 ^ 32) y

-- the same bits, of 32
abbrev pub SameBits : ℕ → ℕ → Type 0
SameBits x y = (b : ℕ) → b < 32 → is_clear x b ≡ is_clear y b

low_bit : (x y b : ℕ) → b < 8 → is_clear (side_by_side x y) b ≡ is_clear y b
low_bit x y b h = is_clear-or ((x * 2 ^ 8) % 2 ^ 32) y b ∙ ap (λ v. v && is_clear y b) (is_clear_shifted_below x 8 b h (omega arith))

high_bit : (x y c : ℕ) → 8 + c < 32 → is_clear (side_by_side x y) (8 + c) ≡ (is_clear x c && is_clear y (8 + c))
high_bit x y c h = is_clear-or ((x * 2 ^ 8) % 2 ^ 32) y (8 + c) ∙ ap (λ v. v && is_clear y (8 + c)) (is_clear_shifted x 8 c h)

-- a bit is below the eighth, or so many above it
low_or_high : (b : ℕ) → (b < 8) ⊎ ((c : ℕ) × (b ≡ 8 + c))
low_or_high b = elim (cases_lt b 8) [ inl low ↦ inl low | inr high ↦ inr (b - 8, omega (arith, high)) ]

swap : (p q r : Bool) → (q && (p && r)) ≡ (p && (q && r))
swap true q r = refl
swap false true r = refl
swap false false r = refl

interchange : (a b x y : Bool) → ((a && b) && (x && y)) ≡ ((a && x) && (b && y))
interchange true b x y = swap x b y
interchange false b x y = refl

with_true : (x y : Bool) → y ≡ true → (x && y) ≡ x
with_true true y e = e
with_true false y e = refl

module _ (last : ℕ) (small : last ≤ 7) where
  -- the bits of a window are taken of both at once
  window_of_both : (x y : ℕ) → y < 2 ^ 8 → SameBits (bit_and (side_by_side x y) (side_by_side (window_bits last) (window_bits last))) (side_by_side (bit_and x (window_bits last)) (bit_and y (window_bits last)))
  window_of_both x y byte b within = by (low_or_high b)
    where
      w : ℕ
      w = window_bits last

      Same : ℕ → Type 0
      Same n = is_clear (bit_and (side_by_side x y) (side_by_side w w)) n ≡ is_clear (side_by_side (bit_and x w) (bit_and y w)) n

      high : (c : ℕ) → 8 + c < 32 → Same (8 + c)
      high c fits =
          let of_x : is_clear (side_by_side x y) (8 + c) ≡ is_clear x c = high_bit x y c fits ∙ with_true (is_clear x c) (is_clear y (8 + c)) (above_top y 7 (8 + c) byte (omega arith)) in
          let power : 2 ^ last ≤ 2 ^ 7 = pow_mono small in
          let bits : w < 2 ^ 8 = omega (arith, power) in
          let of_w : is_clear (side_by_side w w) (8 + c) ≡ is_clear w c = high_bit w w c fits ∙ with_true (is_clear w c) (is_clear w (8 + c)) (above_top w 7 (8 + c) bits (omega arith)) in
          let masked : is_clear (side_by_side (bit_and x w) (bit_and y w)) (8 + c) ≡ is_clear (bit_and x w) c = high_bit (bit_and x w) (bit_and y w) c fits ∙ with_true (is_clear (bit_and x w) c) (is_clear (bit_and y w) (8 + c)) (above_window y last (8 + c) small (omega arith)) in
          is_clear-and (side_by_side x y) (side_by_side w w) (8 + c) ∙ (ap (λ v. v || is_clear (side_by_side w w) (8 + c)) of_x ∙ (ap (λ v. is_clear x c || v) of_w ∙ (sym (is_clear-and x w c) ∙ sym masked)))

      by : (b < 8) ⊎ ((c : ℕ) × (b ≡ 8 + c)) → Same b
      by (inl low) = is_clear-and (side_by_side x y) (side_by_side w w) b ∙ (ap (λ v. v || is_clear (side_by_side w w) b) (low_bit x y b low) ∙ (ap (λ v. is_clear y b || v) (low_bit w w b low) ∙ (sym (is_clear-and y w b) ∙ sym (low_bit (bit_and x w) (bit_and y w) b low))))
      by (inr (c, is)) = subst Same (sym is) (high c (omega (arith, is, within)))

-- a step with the same bits
next_same : (read x y : ℕ) → SameBits x y → SameBits (next_state read x) (next_state read y)
next_same read x y same b within = is_clear-or ((read * 2 ^ 1) % 2 ^ 32) x b ∙ (ap (λ v. is_clear ((read * 2 ^ 1) % 2 ^ 32) b && v) (same b within) ∙ sym (is_clear-or ((read * 2 ^ 1) % 2 ^ 32) y b))

-- a step with both entries is a step of both states
both_step : (a b x y read : ℕ) → SameBits read (side_by_side a b) → SameBits (next_state read (side_by_side x y)) (side_by_side (next_state a x) (next_state b y))
both_step a b x y read same zero within = next_first read (side_by_side x y) ∙ (low_bit x y 0 (omega arith) ∙ (sym (next_first b y) ∙ sym (low_bit (next_state a x) (next_state b y) 0 (omega arith))))
both_step a b x y read same (suc n) within =
    next_later read (side_by_side x y) n (omega arith) ∙ (ap (λ v. v && is_clear (side_by_side x y) (suc n)) (same n (omega arith)) ∙ by (low_or_high n))
  where
    Same : ℕ → Type 0
    Same m = (is_clear (side_by_side a b) m && is_clear (side_by_side x y) (suc m)) ≡ is_clear (side_by_side (next_state a x) (next_state b y)) (suc m)

    low : suc n < 8 → Same n
    low h =
        ap (λ v. v && is_clear (side_by_side x y) (suc n)) (low_bit a b n (omega arith))
        ∙ (ap (λ v. is_clear b n && v) (low_bit x y (suc n) h) ∙ (sym (next_later b y n (omega arith)) ∙ sym (low_bit (next_state a x) (next_state b y) (suc n) h)))

    first : Same 7
    first =
        let at : suc 7 ≡ 8 + 0 = omega arith in
        let of_both : is_clear (side_by_side x y) (suc 7) ≡ (is_clear x 0 && is_clear y (suc 7)) = ap (λ i. is_clear (side_by_side x y) i) at ∙ (high_bit x y 0 (omega arith) ∙ ap (λ i. is_clear x 0 && is_clear y i) (sym at)) in
        let next : is_clear (side_by_side (next_state a x) (next_state b y)) (suc 7) ≡ (is_clear (next_state a x) 0 && is_clear (next_state b y) (suc 7)) =
        ap (λ i. is_clear (side_by_side (next_state a x) (next_state b y)) i) at ∙ (high_bit (next_state a x) (next_state b y) 0 (omega arith) ∙ ap (λ i. is_clear (next_state a x) 0 && is_clear (next_state b y) i) (sym at)) in
        ap (λ v. v && is_clear (side_by_side x y) (suc 7)) (low_bit a b 7 (omega arith)) ∙ (ap (λ v. is_clear b 7 && v) of_both ∙ (swap (is_clear x 0) (is_clear b 7) (is_clear y (suc 7))
        ∙ (ap (λ v. is_clear x 0 && v) (sym (next_later b y 7 (omega arith))) ∙ (ap (λ v. v && is_clear (next_state b y) (suc 7)) (sym (next_first a x)) ∙ sym next))))

    later : (c : ℕ) → suc (8 + c) < 32 → Same (8 + c)
    later c fits =
        let at : suc (8 + c) ≡ 8 + suc c = omega arith in
        let of_both : is_clear (side_by_side x y) (suc (8 + c)) ≡ (is_clear x (suc c) && is_clear y (suc (8 + c))) = ap (λ i. is_clear (side_by_side x y) i) at ∙ (high_bit x y (suc c) (omega arith) ∙ ap (λ i. is_clear x (suc c) && is_clear y i) (sym at)) in
        let next : is_clear (side_by_side (next_state a x) (next_state b y)) (suc (8 + c)) ≡ (is_clear (next_state a x) (suc c) && is_clear (next_state b y) (suc (8 + c))) =
        ap (λ i. is_clear (side_by_side (next_state a x) (next_state b y)) i) at ∙ (high_bit (next_state a x) (next_state b y) (suc c) (omega arith) ∙ ap (λ i. is_clear (next_state a x) (suc c) && is_clear (next_state b y) i) (sym at)) in
        ap (λ v. v && is_clear (side_by_side x y) (suc (8 + c))) (high_bit a b c (omega arith)) ∙ (ap (λ v. (is_clear a c && is_clear b (8 + c)) && v) of_both
        ∙ (interchange (is_clear a c) (is_clear b (8 + c)) (is_clear x (suc c)) (is_clear y (suc (8 + c)))
        ∙ (ap (λ v. v && (is_clear b (8 + c) && is_clear y (suc (8 + c)))) (sym (next_later a x c (omega arith))) ∙ (ap (λ v. is_clear (next_state a x) (suc c) && v) (sym (next_later b y (8 + c) (omega arith))) ∙ sym next))))

    below : n < 8 → (n < 7) ⊎ (7 ≤ n) → Same n
    below h (inl less) = low (omega arith)
    below h (inr most) = let is : n ≡ 7 = omega arith in subst Same (sym is) first

    by : (n < 8) ⊎ ((c : ℕ) × (n ≡ 8 + c)) → Same n
    by (inl h) = below h (cases_lt n 7)
    by (inr (c, is)) = subst Same (sym is) (later c (omega (arith, is, within)))

-- the state of k pairs, beside that of the k pairs that are eight behind these
abbrev pub both_states : List ℕ → List ℕ → ℕ → ℕ → ℕ → ℕ
both_states entries h last i k = side_by_side (states entries h (window_bits last) i 0 k) (states entries h (window_bits last) (i + 8) 0 k)

module _ (entries h : List ℕ) (last i : ℕ) (small : last ≤ 7) where
  pub both_none : SameBits 0 (both_states entries h last i 0)
  both_none b within =
      let none : 0 ≡ states entries h (window_bits last) i 0 0 = states_none entries h (window_bits last) i 0 in
      let none' : 0 ≡ states entries h (window_bits last) (i + 8) 0 0 = states_none entries h (window_bits last) (i + 8) 0 in
      ap (λ n. is_clear n b) (let zero_both : 0 ≡ side_by_side 0 0 = refl in zero_both) ∙ (ap (λ n. is_clear (side_by_side n 0) b) none ∙ ap (λ n. is_clear (side_by_side (states entries h (window_bits last) i 0 0) n) b) none')

  -- one pair more of either
  pub both_more : (k x y read : ℕ) → x ≡ entry_in entries (pair_before h (i + k)) → y ≡ entry_in entries (pair_before h (i + 8 + k)) → y < 2 ^ 8 → SameBits read (both_states entries h last i k)
      → SameBits (next_state read (bit_and (side_by_side x y) (side_by_side (window_bits last) (window_bits last)))) (both_states entries h last i (k + 1))
  both_more k x y read is_x is_y byte same b within =
      let w = window_bits last in
      let a = states entries h w i 0 k in
      let a' = states entries h w (i + 8) 0 k in
      let step = both_step a a' (bit_and x w) (bit_and y w) read same b within in
      let masked : is_clear (next_state read (bit_and (side_by_side x y) (side_by_side w w))) b ≡ is_clear (next_state read (side_by_side (bit_and x w) (bit_and y w))) b = next_same read _ _ (window_of_both last small x y byte) b within in
      let first : next_state a (bit_and x w) ≡ states entries h w i 0 (k + 1) = ap (λ e. next_state a (bit_and e w)) is_x ∙ states_more entries h w i 0 k in
      let second : next_state a' (bit_and y w) ≡ states entries h w (i + 8) 0 (k + 1) = ap (λ e. next_state a' (bit_and e w)) is_y ∙ states_more entries h w (i + 8) 0 k in
      masked ∙ (step ∙ (ap (λ n. is_clear (side_by_side n (next_state a' (bit_and y w))) b) first ∙ ap (λ n. is_clear (side_by_side (states entries h w i 0 (k + 1)) n) b) second))

  -- the state of n pairs behind m others
  states_behind : (w s m n : ℕ) → states entries h w (i + m) (states entries h w i s m) n ≡ states entries h w i s (m + n)
  states_behind w s m zero = sym (states_none entries h w (i + m) (states entries h w i s m)) ∙ ap (λ n. states entries h w i s n) (let e : m ≡ m + zero = omega arith in e)
  states_behind w s m (suc n) =
      let one : n + 1 ≡ suc n = omega arith in
      let place : i + m + n ≡ i + (m + n) = omega arith in
      let all : m + n + 1 ≡ m + suc n = omega arith in
      let e = bit_and (entry_in entries (pair_before h (i + m + n))) w in
      ap (λ k. states entries h w (i + m) (states entries h w i s m) k) (sym one)
      ∙ (sym (states_more entries h w (i + m) (states entries h w i s m) n)
      ∙ (ap (λ r. next_state r e) (states_behind w s m n)
      ∙ (ap (λ p. next_state (states entries h w i s (m + n)) (bit_and (entry_in entries (pair_before h p)) w)) place
      ∙ (states_more entries h w i s (m + n) ∙ ap (λ k. states entries h w i s k) all))))

  -- eight of both are the state of sixteen pairs
  both_all : SameBits (both_states entries h last i 8) (states entries h (window_bits last) i 0 16)
  both_all b within =
      apart entries h (window_bits last) (i + 8) (states entries h (window_bits last) i 0 8) 8 b within ∙ ap (λ r. is_clear r b) (states_behind (window_bits last) 0 8 8)

  pub ends_sixteen : (read : ℕ) → SameBits read (both_states entries h last i 8) → i + 16 ≤ length h → EndsRound entries h last i 16 read
  ends_sixteen read same inside pos s low bits =
      let w = window_bits last in
      let all = ended_apart entries h last pos i s 16 small (omega arith) low inside bits in
      let alike : SameBits (bit_or ((s * 2 ^ 16) % 2 ^ 32) read) (bit_or ((s * 2 ^ 16) % 2 ^ 32) (states entries h w i 0 16)) =
      λ b within. is_clear-or ((s * 2 ^ 16) % 2 ^ 32) read b ∙ (ap (λ v. is_clear ((s * 2 ^ 16) % 2 ^ 32) b && v) (same b within ∙ both_all b within) ∙ sym (is_clear-or ((s * 2 ^ 16) % 2 ^ 32) (states entries h w i 0 16) b)) in
      record {
        bits = λ b hb. alike b (omega arith) ∙ all.bits b hb;
        ends = λ d hd. alike (last + d) (omega arith) ∙ all.ends d hd;
      }
