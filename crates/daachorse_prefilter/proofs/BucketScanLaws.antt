-- A state shows which windows may pass, and goes on showing it.
use Rattle.std.proofs.Common.{◌≡◌, ◌⊎◌, inl, inr, ℕ, ◌+◌, ◌-◌, ◌*◌, ◌/◌, ◌^◌, ◌<◌, ◌≤◌, true, false, List, drop, get_or, sym, ap, ◌∙◌, arith}
use Rattle.std.specs.Prelude.{bit_or, bit_and}
use Rattle.std.proofs.lemmas.Bool.{and_from, or_left, or_right, cases_lt, false≢true, false_from_ne_true}
use Rattle.daachorse_model.specs.Filter.{is_clear}
use Rattle.daachorse_prefilter.specs.Buckets.{slot_at, some_lets}
use Rattle.daachorse_prefilter.specs.BucketScans.{Shows, EndsWithin, NoneWithin}
use Rattle.daachorse_prefilter.proofs.ClearBits.{is_clear-or, is_clear-and, is_clear_shr, is_clear_above, low_ones}
use Rattle.daachorse_prefilter.proofs.BucketWindows.{lets-at, passing_bucket}

at_bit : (n i j : ℕ) → i ≡ j → is_clear n i ≡ true → is_clear n j ≡ true
at_bit n i j e is = ap (λ k. is_clear n k) (sym e) ∙ is

-- the next entry
pub shows_next : (table text : List ℕ) (pos stride place state e : ℕ) → 1 ≤ stride → state < 2 ^ 64 → e ≡ get_or table (slot_at text place) 0
    → Shows table text pos stride place state → Shows table text pos stride (place + stride) (bit_or (state / 2 ^ (8 * stride)) e)
shows_next table text pos stride place state e some small is shows = record {
  bits = λ q b low begun high hb passing.
      is_clear-or (state / 2 ^ (8 * stride)) e (56 + 8 * (q + stride) - 8 * (place + stride) + b)
      ∙ and_from _ _
      (is_clear_shr state (8 * stride) (56 + 8 * (q + stride) - 8 * (place + stride) + b)
      ∙ before q b begun high hb (cases_lt place (q + stride)) (λ old. shows.bits q b low old (omega arith) hb passing))
      (ap (λ n. is_clear n (56 + 8 * (q + stride) - 8 * (place + stride) + b)) is
      ∙ at_bit (get_or table (slot_at text place) 0) (56 - 8 * (place - q) + b) (56 + 8 * (q + stride) - 8 * (place + stride) + b) (omega arith)
      (lets-at table b text q (place - q) place (omega arith) (omega arith) passing));
}
  where
    before : (q b : ℕ) → q + stride ≤ place + stride → place + stride ≤ q + 7 + stride → b < 8 → (place < q + stride) ⊎ (q + stride ≤ place)
        → (q + stride ≤ place → is_clear state (56 + 8 * (q + stride) - 8 * place + b) ≡ true)
        → is_clear state (8 * stride + (56 + 8 * (q + stride) - 8 * (place + stride) + b)) ≡ true
    before q b begun high hb (inl new) shown = is_clear_above state (8 * stride + (56 + 8 * (q + stride) - 8 * (place + stride) + b)) small (omega arith)
    before q b begun high hb (inr old) shown =
        at_bit state (56 + 8 * (q + stride) - 8 * place + b) (8 * stride + (56 + 8 * (q + stride) - 8 * (place + stride) + b)) (omega arith) (shown old)

-- one of the lowest n bits is 0
pub record HasClear (state n : ℕ) : Type 0 where
  pub at : ℕ
  pub below : at < n
  pub clear : is_clear state at ≡ true

-- a window that a bucket lets pass and that has been read to its end leaves one of the lowest bits 0
pub low_clear : (table text : List ℕ) (pos stride place state q : ℕ) → 1 ≤ stride → stride ≤ 2 → Shows table text pos stride place state
    → pos ≤ q → q + 8 ≤ place → place ≤ q + 7 + stride → some_lets table (drop q text) ≡ true → HasClear state (8 * stride)
low_clear table text pos stride place state q some few shows low begun high passing =
    let bucket = passing_bucket table (drop q text) passing in
    let h = bucket.below in
    record {
      at = 56 + 8 * (q + stride) - 8 * place + bucket.at;
      below = omega arith;
      clear = shows.bits q bucket.at low (omega arith) high h bucket.holds;
    }

-- where these are all 1, there is none
pub none_clear : (bits stride : ℕ) → bit_and bits (2 ^ (8 * stride) - 1) ≡ 2 ^ (8 * stride) - 1 → HasClear bits (8 * stride) → ⊥
none_clear bits stride full has = false≢true (sym (low_ones bits (8 * stride) has.at full has.below) ∙ has.clear)

-- each window that a bucket lets pass, of those that end at the places of a round up to one, has left such a bit 0
pub record HasShown (table text : List ℕ) (stride place to all state : ℕ) : Type 0 where
  pub left : (pos : ℕ) → Shows table text pos stride place state → (q : ℕ) → EndsWithin pos place to q → some_lets table (drop q text) ≡ true → HasClear all (8 * stride)

pub shown_none : (table text : List ℕ) (stride place to all state : ℕ) → to ≡ place → HasShown table text stride place to all state
shown_none table text stride place to all state e = record { left = λ pos shows q within passing. absurd (let l = within.low in let h = within.high in omega arith) }

pub shown_more : (table text : List ℕ) (stride place to next_to all state next : ℕ) → 1 ≤ stride → stride ≤ 2 → next_to ≡ to + stride
    → ((pos : ℕ) → Shows table text pos stride place state → Shows table text pos stride next_to next)
    → HasShown table text stride place to all state → HasShown table text stride place next_to (bit_and all next) state
shown_more table text stride place to next_to all state next some few is shows before = record { left = λ pos at_first q within passing. by pos at_first q within passing (cases_lt to (q + 8)) }
  where
    by : (pos : ℕ) → Shows table text pos stride place state → (q : ℕ) → EndsWithin pos place next_to q → some_lets table (drop q text) ≡ true → (to < q + 8) ⊎ (q + 8 ≤ to) → HasClear (bit_and all next) (8 * stride)
    by pos at_first q within passing (inl new) =
        let c = low_clear table text pos stride next_to next q some few (shows pos at_first) within.begun within.high (omega arith) passing in
        record { at = c.at; below = c.below; clear = is_clear-and all next c.at ∙ or_right (is_clear all c.at) (is_clear next c.at) c.clear }
    by pos at_first q within passing (inr old) =
        let c = before.left pos at_first q (record { begun = within.begun; low = within.low; high = old }) passing in
        record { at = c.at; below = c.below; clear = is_clear-and all next c.at ∙ or_left (is_clear all c.at) (is_clear next c.at) c.clear }

pub none_in_round : (table text : List ℕ) (pos stride place to end all state : ℕ) → to ≡ end → bit_and all (2 ^ (8 * stride) - 1) ≡ 2 ^ (8 * stride) - 1
    → Shows table text pos stride place state → HasShown table text stride place to all state → NoneWithin table text pos place end
none_in_round table text pos stride place to end all state e full at_first shown = record {
  none = λ q within.
      false_from_ne_true _ (λ passing. none_clear all stride full (shown.left pos at_first q (record { begun = within.begun; low = within.low; high = (let h = within.high in omega arith) }) passing));
}

pub none_same : (table text : List ℕ) (pos place to next : ℕ) → next ≡ to → NoneWithin table text pos place to → NoneWithin table text pos place next
none_same table text pos place to next e before = record { none = λ q within. before.none q (record { begun = within.begun; low = within.low; high = (let h = within.high in omega arith) }) }

-- the lowest bits are all 1 behind a place that was read
pub none_more : (table text : List ℕ) (pos stride place to next state : ℕ) → 1 ≤ stride → stride ≤ 2 → next ≡ to + stride
    → bit_and state (2 ^ (8 * stride) - 1) ≡ 2 ^ (8 * stride) - 1 → Shows table text pos stride next state
    → NoneWithin table text pos place to → NoneWithin table text pos place next
none_more table text pos stride place to next state some few is full shows before = record { none = λ q within. by q within (cases_lt to (q + 8)) }
  where
    by : (q : ℕ) → EndsWithin pos place next q → (to < q + 8) ⊎ (q + 8 ≤ to) → some_lets table (drop q text) ≡ false
    by q within (inl new) = false_from_ne_true _ (λ passing. none_clear state stride full (low_clear table text pos stride next state q some few shows within.begun within.high (omega arith) passing))
    by q within (inr old) = before.none q (record { begun = within.begun; low = within.low; high = old })

-- the places of a round
pub next_place : (place j stride : ℕ) → place + (j + 1) * stride ≡ place + j * stride + stride
next_place place j stride = omega arith

pub last_place : (place j stride : ℕ) → (stride ≡ 1) ⊎ (stride ≡ 2) → j ≡ 16 / stride → place + j * stride ≡ place + 16
last_place place j stride (inl e) whole = ap (λ n. place + n * stride) (whole ∙ ap (λ s. 16 / s) e) ∙ ap (λ s. place + 16 * s) e
last_place place j stride (inr e) whole = ap (λ n. place + n * stride) (whole ∙ ap (λ s. 16 / s) e) ∙ ap (λ s. place + 8 * s) e
