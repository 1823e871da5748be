-- What the shift-or state knows: bit j is 0 where the last j + 1 pairs are those that a window begins with, from the first place on.
use Rattle.std.proofs.Common.{◌≡◌, ℕ, zero, suc, ◌+◌, ◌-◌, ◌*◌, ◌%◌, ◌^◌, ◌<◌, ◌≤◌, ◌⊎◌, Bool, true, false, ◌&&◌, List, length, drop, get_or, refl, sym, ap, ◌∙◌, inl, inr, arith}
use Rattle.std.specs.Prelude.{nat_le, ◌||◌, bit_and, bit_or}
use Rattle.std.proofs.lemmas.Bool.{cases_lt, le-leb, lt-leb}
use Rattle.std.proofs.Math.Pow.{pow_mono}
use Rattle.std.proofs.lemmas.List.{get_or-drop, length-drop}
use Rattle.daachorse_model.specs.Filter.{is_clear, pairs_pass, passes}
use Rattle.daachorse_prefilter.specs.Places.{IsFirstPlace}
use Rattle.daachorse_prefilter.specs.Scans.{has_begun, AreBits, HasEnded, NonePasses}
use Rattle.daachorse_prefilter.proofs.ClearBits.{is_clear-and, is_clear-or, is_clear_shifted, is_clear_shifted_below, is_clear_mask, is_clear_mask_above}
use Rattle.daachorse_prefilter.proofs.NextPlaces.{pairs_pass_more, passes_short}

abbrev pub entry_in : List ℕ → ℕ → ℕ
entry_in entries pair = get_or entries pair 0

-- the pair that byte i ends
abbrev pub pair_before : List ℕ → ℕ → ℕ
pair_before h i = get_or h (i - 1) 0 * 256 + get_or h i 0

-- the window's bytes before i, of which the last has the number of its pair
window_more : (t : ℕ → ℕ) (h : List ℕ) (s k i : ℕ) → s + suc k ≡ i → i < length h → pairs_pass t 0 (suc k) (drop s h) ≡ (pairs_pass t 0 k (drop s h) && is_clear (t (pair_before h i)) k)
window_more t h s k i e l =
    let size = length-drop s h in
    let first : get_or (drop s h) k 0 ≡ get_or h (i - 1) 0 = get_or-drop s h k 0 ∙ ap (λ n. get_or h n 0) (let same : s + k ≡ i - 1 = omega arith in same) in
    let second : get_or (drop s h) (suc k) 0 ≡ get_or h i 0 = get_or-drop s h (suc k) 0 ∙ ap (λ n. get_or h n 0) e in
    let pair : get_or (drop s h) k 0 * 256 + get_or (drop s h) (suc k) 0 ≡ pair_before h i = omega arith in
    pairs_pass_more t 0 k k (drop s h) (omega arith) (omega arith)
    ∙ ap (λ p. pairs_pass t 0 k (drop s h) && is_clear (t p) k) pair

-- of the pair that byte i ends, the bit of a window's first pair
begun_first : (entries h : List ℕ) (pos i : ℕ) → pos + 1 ≤ i → i < length h → is_clear (entry_in entries (pair_before h i)) 0 ≡ has_begun entries h pos (i + 1) 0
begun_first entries h pos i low l =
    let long : nat_le (pos + 0 + 2) (i + 1) ≡ true = le-leb (pos + 0 + 2) (i + 1) (omega arith) in
    let more = window_more (entry_in entries) h (i + 1 - 0 - 2) 0 i (omega arith) l in
    rw long (sym more)

-- and that of each later pair
begun_later : (entries h : List ℕ) (pos i b : ℕ) → pos + 1 ≤ i → i < length h → (has_begun entries h pos i b && is_clear (entry_in entries (pair_before h i)) (suc b)) ≡ has_begun entries h pos (i + 1) (suc b)
begun_later entries h pos i b low l = by (cases_lt i (pos + b + 2))
  where
    by : (i < pos + b + 2) ⊎ (pos + b + 2 ≤ i) → (has_begun entries h pos i b && is_clear (entry_in entries (pair_before h i)) (suc b)) ≡ has_begun entries h pos (i + 1) (suc b)
    by (inl less) =
        let short : nat_le (pos + b + 2) i ≡ false = lt-leb (pos + b + 2) i less in
        let short_more : nat_le (pos + suc b + 2) (i + 1) ≡ false = lt-leb (pos + suc b + 2) (i + 1) (omega arith) in
        rw (short, short_more) refl
    by (inr most) =
        let long : nat_le (pos + b + 2) i ≡ true = le-leb (pos + b + 2) i most in
        let long_more : nat_le (pos + suc b + 2) (i + 1) ≡ true = le-leb (pos + suc b + 2) (i + 1) (omega arith) in
        let place : i + 1 - suc b - 2 ≡ i - b - 2 = omega arith in
        let more = window_more (entry_in entries) h (i - b - 2) (suc b) i (omega arith) l in
        rw (long, long_more, place) (sym more)

-- the state after a pair whose entry is e
abbrev pub next_state : ℕ → ℕ → ℕ
next_state s e = bit_or ((s * 2 ^ 1) % 2 ^ 32) e

pub next_first : (s e : ℕ) → is_clear (next_state s e) 0 ≡ is_clear e 0
next_first s e = is_clear-or ((s * 2 ^ 1) % 2 ^ 32) e 0 ∙ ap (λ x. x && is_clear e 0) (is_clear_shifted_below s 1 0 (omega arith) (omega arith))

pub next_later : (s e b : ℕ) → b < 31 → is_clear (next_state s e) (suc b) ≡ (is_clear s b && is_clear e (suc b))
next_later s e b h =
    let place : 1 + b ≡ suc b = omega arith in
    is_clear-or ((s * 2 ^ 1) % 2 ^ 32) e (suc b)
    ∙ ap (λ x. x && is_clear e (suc b)) (ap (λ n. is_clear ((s * 2 ^ 1) % 2 ^ 32) n) (sym place) ∙ is_clear_shifted s 1 b (omega arith))

-- the bits of the next state, where the entry has the bits of the pair that byte i ends
pub bits_next : (entries h : List ℕ) (last pos i s e : ℕ) → last ≤ 7 → pos + 1 ≤ i → i < length h → ((b : ℕ) → b ≤ last → is_clear e b ≡ is_clear (entry_in entries (pair_before h i)) b) → AreBits entries h last pos i s → AreBits entries h last pos (i + 1) (next_state s e)
bits_next entries h last pos i s e small low l same bits zero hb =
    next_first s e ∙ same 0 hb ∙ begun_first entries h pos i low l
bits_next entries h last pos i s e small low l same bits (suc b) hb =
    next_later s e b (omega arith)
    ∙ ap (λ x. x && is_clear e (suc b)) (bits b (omega arith))
    ∙ ap (λ x. has_begun entries h pos i b && x) (same (suc b) hb)
    ∙ begun_later entries h pos i b low l

-- the bits from the first to that of a window's last pair
abbrev pub window_bits : ℕ → ℕ
window_bits last = (2 * 2 ^ last) % 2 ^ 32 - 1

window_bits_is : (last : ℕ) → last ≤ 7 → window_bits last ≡ 2 ^ (suc last) - 1
window_bits_is last h =
    let small : 2 ^ last ≤ 2 ^ 7 = pow_mono h in
    omega arith

or_false : (x y : Bool) → y ≡ false → (x || y) ≡ x
or_false true y e = refl
or_false false y e = e

or_true : (x y : Bool) → y ≡ true → (x || y) ≡ true
or_true true y e = refl
or_true false y e = e

pub within_window : (e last b : ℕ) → last ≤ 7 → b ≤ last → is_clear (bit_and e (window_bits last)) b ≡ is_clear e b
within_window e last b small h =
    is_clear-and e (window_bits last) b
    ∙ or_false (is_clear e b) (is_clear (window_bits last) b) (ap (λ w. is_clear w b) (window_bits_is last small) ∙ is_clear_mask (suc last) b (omega arith))

pub above_window : (e last b : ℕ) → last ≤ 7 → last < b → is_clear (bit_and e (window_bits last)) b ≡ true
above_window e last b small h =
    is_clear-and e (window_bits last) b
    ∙ or_true (is_clear e b) (is_clear (window_bits last) b) (ap (λ w. is_clear w b) (window_bits_is last small) ∙ is_clear_mask_above (suc last) b (omega arith))

-- the state after the k pairs that bytes i and on end, of whose entries the bits of a window are taken
unfoldable pub states : List ℕ → List ℕ → ℕ → ℕ → ℕ → ℕ → ℕ
states entries h w i s zero = s
states entries h w i s (suc k) = next_state (states entries h w i s k) (bit_and (entry_in entries (pair_before h (i + k))) w)

pub states_none : (entries h : List ℕ) (w i s : ℕ) → s ≡ states entries h w i s 0
unfolding states
states_none entries h w i s = refl

pub states_more : (entries h : List ℕ) (w i s k : ℕ) → next_state (states entries h w i s k) (bit_and (entry_in entries (pair_before h (i + k))) w) ≡ states entries h w i s (k + 1)
unfolding states
states_more entries h w i s k =
    let more : k + 1 ≡ suc k = omega arith in
    ap (λ n. states entries h w i s n) (sym more)

and_true : (x : Bool) → (x && true) ≡ x
and_true true = refl
and_true false = refl

pub ended : (entries h : List ℕ) (last pos i s k : ℕ) → last ≤ 7 → pos + 1 ≤ i → i + k ≤ length h → k ≤ 16 → AreBits entries h last pos i s → HasEnded entries h last pos i k (states entries h (window_bits last) i s k)
unfolding states
ended entries h last pos i s zero small low l few bits =
    let same : i + zero ≡ i = omega arith in
    record { bits = rw same bits; ends = λ d hd. absurd (omega arith) }
ended entries h last pos i s (suc k) small low l few bits =
    let r = states entries h (window_bits last) i s k in
    let e = bit_and (entry_in entries (pair_before h (i + k))) (window_bits last) in
    let before : HasEnded entries h last pos i k r = ended entries h last pos i s k small low (omega arith) (omega arith) bits in
    let place : i + suc k ≡ i + k + 1 = omega arith in
    let more : AreBits entries h last pos (i + k + 1) (next_state r e) =
    bits_next entries h last pos (i + k) r e small (omega arith) (omega arith) (λ b hb. within_window _ last b small hb) before.bits in
    record { bits = rw place more; ends = λ d hd. at d hd r e before.ends more }
  where
    at : (d : ℕ) → d < suc k → (r e : ℕ) → ((d : ℕ) → d < k → is_clear r (last + d) ≡ has_begun entries h pos (i + k - d) last)
        → AreBits entries h last pos (i + k + 1) (next_state r (bit_and (entry_in entries (pair_before h (i + k))) (window_bits last)))
        → is_clear (next_state r (bit_and (entry_in entries (pair_before h (i + k))) (window_bits last))) (last + d) ≡ has_begun entries h pos (i + suc k - d) last
    at zero hd r e ends more =
        let bit : last + zero ≡ last = omega arith in
        let place : i + suc k - zero ≡ i + k + 1 = omega arith in
        rw (bit, place) (more last (omega arith))
    at (suc d) hd r e ends more =
        let entry = bit_and (entry_in entries (pair_before h (i + k))) (window_bits last) in
        let bit : last + suc d ≡ suc (last + d) = omega arith in
        let place : i + suc k - suc d ≡ i + k - d = omega arith in
        let none : is_clear entry (suc (last + d)) ≡ true = above_window _ last (suc (last + d)) small (omega arith) in
        rw (bit, place) (next_later r entry (last + d) (omega arith) ∙ ap (λ x. is_clear r (last + d) && x) none ∙ and_true (is_clear r (last + d)) ∙ ends d (omega arith))

and_assoc : (x y z : Bool) → (x && (y && z)) ≡ ((x && y) && z)
and_assoc true y z = refl
and_assoc false y z = refl

shifted_more : (s k b : ℕ) → suc b < 32 → is_clear ((s * 2 ^ suc k) % 2 ^ 32) (suc b) ≡ is_clear ((s * 2 ^ k) % 2 ^ 32) b
shifted_more s k b h = by (cases_lt b k)
  where
    by : (b < k) ⊎ (k ≤ b) → is_clear ((s * 2 ^ suc k) % 2 ^ 32) (suc b) ≡ is_clear ((s * 2 ^ k) % 2 ^ 32) b
    by (inl below) = is_clear_shifted_below s (suc k) (suc b) (omega arith) h ∙ sym (is_clear_shifted_below s k b below (omega arith))
    by (inr above) =
        let high : suc k + (b - k) ≡ suc b = omega arith in
        let low : k + (b - k) ≡ b = omega arith in
        ap (λ n. is_clear ((s * 2 ^ suc k) % 2 ^ 32) n) (sym high) ∙ is_clear_shifted s (suc k) (b - k) (omega arith)
        ∙ sym (is_clear_shifted s k (b - k) (omega arith)) ∙ ap (λ n. is_clear ((s * 2 ^ k) % 2 ^ 32) n) low

-- a state that is made of the pairs alone, and the state before, shifted past them
pub apart : (entries h : List ℕ) (w i s k b : ℕ) → b < 32 → is_clear (bit_or ((s * 2 ^ k) % 2 ^ 32) (states entries h w i 0 k)) b ≡ is_clear (states entries h w i s k) b
unfolding states
apart entries h w i s zero b hb =
    is_clear-or ((s * 2 ^ 0) % 2 ^ 32) 0 b
    ∙ ap (λ x. is_clear ((s * 2 ^ 0) % 2 ^ 32) b && x) (is_clear_mask_above 0 b (omega arith))
    ∙ and_true (is_clear ((s * 2 ^ 0) % 2 ^ 32) b)
    ∙ (let same : 0 + b ≡ b = omega arith in ap (λ n. is_clear ((s * 2 ^ 0) % 2 ^ 32) n) (sym same))
    ∙ is_clear_shifted s 0 b (omega arith)
apart entries h w i s (suc k) zero hb =
    let e = bit_and (entry_in entries (pair_before h (i + k))) w in
    is_clear-or ((s * 2 ^ suc k) % 2 ^ 32) (states entries h w i 0 (suc k)) 0
    ∙ ap (λ x. x && is_clear (states entries h w i 0 (suc k)) 0) (is_clear_shifted_below s (suc k) 0 (omega arith) (omega arith))
    ∙ next_first (states entries h w i 0 k) e
    ∙ sym (next_first (states entries h w i s k) e)
apart entries h w i s (suc k) (suc b) hb =
    let e = bit_and (entry_in entries (pair_before h (i + k))) w in
    let shifted = is_clear ((s * 2 ^ k) % 2 ^ 32) b in
    let alone = is_clear (states entries h w i 0 k) b in
    is_clear-or ((s * 2 ^ suc k) % 2 ^ 32) (states entries h w i 0 (suc k)) (suc b)
    ∙ ap (λ x. x && is_clear (states entries h w i 0 (suc k)) (suc b)) (shifted_more s k b hb)
    ∙ ap (λ x. shifted && x) (next_later (states entries h w i 0 k) e b (omega arith))
    ∙ and_assoc shifted alone (is_clear e (suc b))
    ∙ ap (λ x. x && is_clear e (suc b)) (sym (is_clear-or ((s * 2 ^ k) % 2 ^ 32) (states entries h w i 0 k) b) ∙ apart entries h w i s k b (omega arith))
    ∙ sym (next_later (states entries h w i s k) e b (omega arith))

pub ended_apart : (entries h : List ℕ) (last pos i s n : ℕ) → last ≤ 7 → n ≤ 16 → pos + 1 ≤ i → i + n ≤ length h → AreBits entries h last pos i s → HasEnded entries h last pos i n (bit_or ((s * 2 ^ n) % 2 ^ 32) (states entries h (window_bits last) i 0 n))
ended_apart entries h last pos i s n small few low l bits =
    let all = ended entries h last pos i s n small low l few bits in
    record {
      bits = λ b hb. apart entries h (window_bits last) i s n b (omega arith) ∙ all.bits b hb;
      ends = λ d hd. apart entries h (window_bits last) i s n (last + d) (omega arith) ∙ all.ends d hd;
    }

-- no state was made yet
pub bits_start : (entries h : List ℕ) (last pos : ℕ) → last ≤ 7 → AreBits entries h last pos (pos + 1) (2 ^ 32 - 1)
bits_start entries h last pos small b l =
    let short : nat_le (pos + b + 2) (pos + 1) ≡ false = lt-leb (pos + b + 2) (pos + 1) (omega arith) in
    rw short (is_clear_mask 32 b (omega arith))

-- whether the window that ends before i passes
passes_is : (entries h : List ℕ) (last pos i k : ℕ) → i ≤ length h → pos ≤ k → k + (last + 2) ≡ i → passes (entry_in entries) (last + 2) (drop k h) ≡ has_begun entries h pos i last
passes_is entries h last pos i k inside from end =
    let size = length-drop k h in
    let fits : nat_le (last + 2) (length (drop k h)) ≡ true = le-leb (last + 2) (length (drop k h)) (omega arith) in
    let long : nat_le (pos + last + 2) i ≡ true = le-leb (pos + last + 2) i (omega arith) in
    let pairs : last + 2 - 1 ≡ suc last = omega arith in
    let place : i - last - 2 ≡ k = omega arith in
    rw (fits, pairs, long, place) refl

-- a window that has begun does so at the first place or behind it
pub begins_behind : (entries h : List ℕ) (last pos i : ℕ) → has_begun entries h pos i last ≡ true → pos + last + 2 ≤ i
begins_behind entries h last pos i fit = by (cases_lt i (pos + last + 2))
  where
    by : (i < pos + last + 2) ⊎ (pos + last + 2 ≤ i) → pos + last + 2 ≤ i
    by (inl less) =
        let short : nat_le (pos + last + 2) i ≡ false = lt-leb (pos + last + 2) i less in
        let never : has_begun entries h pos i last ≡ false = rw short refl in
        absurd (cc)
    by (inr most) = most

module _ (entries h : List ℕ) (last pos : ℕ) where
  pub none_start : NonePasses entries h (last + 2) pos (pos + 1)
  none_start k from end = absurd (omega arith)

  -- the window that ends with byte i has not begun
  pub none_more : (i : ℕ) → i + 1 ≤ length h → has_begun entries h pos (i + 1) last ≡ false → NonePasses entries h (last + 2) pos i → NonePasses entries h (last + 2) pos (i + 1)
  none_more i inside unfit none k from end = by (cases_lt i (k + (last + 2)))
    where
      by : (i < k + (last + 2)) ⊎ (k + (last + 2) ≤ i) → passes (entry_in entries) (last + 2) (drop k h) ≡ false
      by (inl ends) = passes_is entries h last pos (i + 1) k inside from (omega arith) ∙ unfit
      by (inr before) = none k from before

  -- the scan stops at the window that ends with byte i
  pub found : (i : ℕ) → i + 1 ≤ length h → has_begun entries h pos (i + 1) last ≡ true → NonePasses entries h (last + 2) pos i → IsFirstPlace (passes (entry_in entries) (last + 2)) h pos (i + 1 - (last + 2))
  found i inside fit none =
      let r = i + 1 - (last + 2) in
      let behind = begins_behind entries h last pos (i + 1) fit in
      record {
        inside = omega arith;
        told = tt;
        found = λ l. (omega arith, passes_is entries h last pos (i + 1) r inside (omega arith) (omega arith) ∙ fit);
        first = λ k l u may. none k l (omega arith);
      }

  -- the scan reached the end
  pub found_none : NonePasses entries h (last + 2) pos (length h) → IsFirstPlace (passes (entry_in entries) (last + 2)) h pos (length h)
  found_none none = record {
    inside = omega arith;
    told = tt;
    found = λ l. absurd (omega arith);
    first = λ k l u may. by k l (cases_lt (length h) (k + (last + 2)));
  }
    where
      by : (k : ℕ) → pos ≤ k → (length h < k + (last + 2)) ⊎ (k + (last + 2) ≤ length h) → passes (entry_in entries) (last + 2) (drop k h) ≡ false
      by k l (inl short) = passes_short (entry_in entries) (last + 2) (drop k h) (let size = length-drop k h in omega arith)
      by k l (inr fits) = none k l fits
