-- What lets a window pass.
use Rattle.std.proofs.Common.{◌≡◌, ℕ, zero, suc, ◌+◌, ◌-◌, ◌*◌, ◌/◌, ◌^◌, ◌<◌, ◌⊎◌, inl, inr, Bool, true, false, ◌&&◌, List, drop, get_or, refl, sym, ap, ◌∙◌, arith}
use Rattle.std.specs.Prelude.{◌==◌, not, ◌||◌, bit_or, bit_and}
use Rattle.std.proofs.lemmas.Bool.{cases_eq, eqb-true, eqb-false, false≢true, and_from, or_left, or_right, or_from}
use Rattle.std.proofs.lemmas.List.{get_or-drop}
use Rattle.daachorse_model.specs.Filter.{is_clear}
use Rattle.daachorse_prefilter.specs.Buckets.{slot, slot_at, all_below, some_below, lets, some_lets}
use Rattle.daachorse_prefilter.proofs.ClearBits.{is_clear-or, is_clear_shr, is_clear_zero, low_ones, ones_low}

first_true : (a b : Bool) → (a && b) ≡ true → a ≡ true
first_true true b e = refl
first_true false b e = e

second_true : (a b : Bool) → (a && b) ≡ true → b ≡ true
second_true true b e = e
second_true false b e = absurd (false≢true e)

pub all_below-at : (f : ℕ → Bool) (n k : ℕ) → k < n → all_below f n ≡ true → f k ≡ true
unfolding all_below
all_below-at f zero k h e = absurd (omega arith)
all_below-at f (suc n) k h e = by (cases_eq k n) (λ less. all_below-at f n k less (second_true (f n) (all_below f n) e))
  where
    by : (k ≡ n) ⊎ (k ≡ n → ⊥) → (k < n → f k ≡ true) → f k ≡ true
    by (inl same) rest = ap f same ∙ first_true (f n) (all_below f n) e
    by (inr other) rest = rest (omega arith)

pub all_below-all : (f : ℕ → Bool) (n : ℕ) → ((k : ℕ) → k < n → f k ≡ true) → all_below f n ≡ true
unfolding all_below
all_below-all f zero all = refl
all_below-all f (suc n) all = and_from (f n) (all_below f n) (all n (omega arith)) (all_below-all f n (λ k h. all k (omega arith)))

pub some_below-found : (f : ℕ → Bool) (n k : ℕ) → k < n → f k ≡ true → some_below f n ≡ true
unfolding some_below
some_below-found f zero k h e = absurd (omega arith)
some_below-found f (suc n) k h e = by (cases_eq k n) (λ less. some_below-found f n k less e)
  where
    by : (k ≡ n) ⊎ (k ≡ n → ⊥) → (k < n → some_below f n ≡ true) → (f n || some_below f n) ≡ true
    by (inl same) rest = or_left (f n) (some_below f n) (sym (ap f same) ∙ e)
    by (inr other) rest = or_right (f n) (some_below f n) (rest (omega arith))

pub some_below-none : (f : ℕ → Bool) (n : ℕ) → ((k : ℕ) → k < n → f k ≡ false) → some_below f n ≡ false
unfolding some_below
some_below-none f zero none = refl
some_below-none f (suc n) none = or_from (f n) (some_below f n) (none n (omega arith)) (some_below-none f n (λ k h. none k (omega arith)))

pub is_either : (b : Bool) → (b ≡ true) ⊎ (b ≡ false)
is_either true = inl refl
is_either false = inr refl

pub passes_some : (table w : List ℕ) (b : ℕ) → b < 8 → lets table b w ≡ true → some_lets table w ≡ true
unfolding some_lets
passes_some table w b h e = some_below-found (λ b. lets table b w) 8 b h e

-- the slots of a text from a place on
pub slot_behind : (text : List ℕ) (q k p : ℕ) → q + k ≡ p → slot_at (drop q text) k ≡ slot_at text p
slot_behind text q k p e =
    let second : q + (k + 1) ≡ p + 1 = omega arith in
    let third : q + (k + 2) ≡ p + 2 = omega arith in
    ap (λ a. slot a (get_or (drop q text) (k + 1) 0) (get_or (drop q text) (k + 2) 0)) (get_or-drop q text k 0 ∙ ap (λ n. get_or text n 0) e)
    ∙ ap (λ b. slot (get_or text p 0) b (get_or (drop q text) (k + 2) 0)) (get_or-drop q text (k + 1) 0 ∙ ap (λ n. get_or text n 0) second)
    ∙ ap (λ c. slot (get_or text p 0) (get_or text (p + 1) 0) c) (get_or-drop q text (k + 2) 0 ∙ ap (λ n. get_or text n 0) third)

-- a bucket that lets the window pass has its bits 0
pub lets-at : (table : List ℕ) (b : ℕ) (text : List ℕ) (q k p : ℕ) → k < 8 → q + k ≡ p → lets table b (drop q text) ≡ true → is_clear (get_or table (slot_at text p) 0) (56 - 8 * k + b) ≡ true
unfolding lets
lets-at table b text q k p h e passing =
    ap (λ s. is_clear (get_or table s 0) (56 - 8 * k + b)) (sym (slot_behind text q k p e))
    ∙ all_below-at (λ k. is_clear (get_or table (slot_at (drop q text) k) 0) (56 - 8 * k + b)) 8 k h passing

pub lets-all : (table : List ℕ) (b : ℕ) (text : List ℕ) (q : ℕ) → ((k : ℕ) → k < 8 → is_clear (get_or table (slot_at text (q + k)) 0) (56 - 8 * k + b) ≡ true) → lets table b (drop q text) ≡ true
unfolding lets
lets-all table b text q all =
    all_below-all (λ k. is_clear (get_or table (slot_at (drop q text) k) 0) (56 - 8 * k + b)) 8
    (λ k h. ap (λ s. is_clear (get_or table s 0) (56 - 8 * k + b)) (slot_behind text q k (q + k) refl) ∙ all k h)

-- which bucket
pub record IsSome (f : ℕ → Bool) (n : ℕ) : Type 0 where
  pub at : ℕ
  pub below : at < n
  pub holds : f at ≡ true

pub some_below-witness : (f : ℕ → Bool) (n : ℕ) → some_below f n ≡ true → IsSome f n
unfolding some_below
some_below-witness f zero e = absurd (false≢true e)
some_below-witness f (suc n) e = by (is_either (f n)) (some_below-witness f n)
  where
    by : (f n ≡ true) ⊎ (f n ≡ false) → (some_below f n ≡ true → IsSome f n) → IsSome f (suc n)
    by (inl here) rest = record { at = n; below = omega arith; holds = here }
    by (inr other) rest = let later = rest (second_of (f n) (some_below f n) other e) in record { at = later.at; below = (let h = later.below in omega arith); holds = later.holds }
      where
        second_of : (a b : Bool) → a ≡ false → (a || b) ≡ true → b ≡ true
        second_of true b n e = absurd (false≢true (sym n))
        second_of false b n e = e

pub passing_bucket : (table w : List ℕ) → some_lets table w ≡ true → IsSome (λ b. lets table b w) 8
unfolding some_lets
passing_bucket table w e = some_below-witness (λ b. lets table b w) 8 e

pub some_below-same : (f g : ℕ → Bool) (n : ℕ) → ((k : ℕ) → k < n → f k ≡ g k) → some_below f n ≡ some_below g n
unfolding some_below
some_below-same f g zero same = refl
some_below-same f g (suc n) same = ap (λ b. b || some_below f n) (same n (omega arith)) ∙ ap (λ r. g n || r) (some_below-same f g n (λ k h. same k (omega arith)))

pub all_below-same : (f g : ℕ → Bool) (n : ℕ) → ((k : ℕ) → k < n → f k ≡ g k) → all_below f n ≡ all_below g n
unfolding all_below
all_below-same f g zero same = refl
all_below-same f g (suc n) same = ap (λ b. b && all_below f n) (same n (omega arith)) ∙ ap (λ r. g n && r) (all_below-same f g n (λ k h. same k (omega arith)))

-- the bits that no offset refuses, of so many offsets
abbrev pub open_so_far : List ℕ → List ℕ → ℕ → ℕ → Bool
open_so_far table w b n = all_below (λ k. is_clear (get_or table (slot_at w k) 0) (56 - 8 * k + b)) n

and_turned : (a b : Bool) → (a && b) ≡ (b && a)
and_turned true true = refl
and_turned true false = refl
and_turned false true = refl
and_turned false false = refl

pub open_none : (table w : List ℕ) (b : ℕ) → is_clear 0 b ≡ open_so_far table w b 0
unfolding all_below
open_none table w b = is_clear_zero b

pub open_more : (table : List ℕ) (text : List ℕ) (q b k refused e : ℕ) → e ≡ get_or table (slot_at text (q + k)) 0
    → is_clear refused b ≡ open_so_far table (drop q text) b k
    → is_clear (bit_or refused (e / 2 ^ (56 - 8 * k))) b ≡ open_so_far table (drop q text) b (suc k)
unfolding all_below
open_more table text q b k refused e is so_far =
    is_clear-or refused (e / 2 ^ (56 - 8 * k)) b
    ∙ and_turned (is_clear refused b) (is_clear (e / 2 ^ (56 - 8 * k)) b)
    ∙ ap (λ c. c && is_clear refused b) (is_clear_shr e (56 - 8 * k) b ∙ ap (λ n. is_clear n (56 - 8 * k + b)) (is ∙ ap (λ s. get_or table s 0) (sym (slot_behind text q k (q + k) refl))))
    ∙ ap (λ r. is_clear (get_or table (slot_at (drop q text) k) 0) (56 - 8 * k + b) && r) so_far

-- some bucket lets a window pass just where the bits that none refuses are not all 1
pub passes_is : (table w : List ℕ) (refused : ℕ) → ((b : ℕ) → b < 8 → is_clear refused b ≡ open_so_far table w b 8)
    → some_lets table w ≡ some_below (λ b. is_clear refused b) 8
unfolding some_lets lets
passes_is table w refused is = some_below-same (λ b. lets table b w) (λ b. is_clear refused b) 8 (λ b h. sym (is b h))

pub refused_all : (refused : ℕ) → bit_and refused 255 ≡ 255 → some_below (λ b. is_clear refused b) 8 ≡ false
refused_all refused e = some_below-none (λ b. is_clear refused b) 8 (λ b h. low_ones refused 8 b e h)

pub refused_some : (refused : ℕ) → (bit_and refused 255 ≡ 255 → ⊥) → some_below (λ b. is_clear refused b) 8 ≡ true
refused_some refused ne = by (is_either (some_below (λ b. is_clear refused b) 8))
  where
    by : (some_below (λ b. is_clear refused b) 8 ≡ true) ⊎ (some_below (λ b. is_clear refused b) 8 ≡ false) → some_below (λ b. is_clear refused b) 8 ≡ true
    by (inl some) = some
    by (inr none) = absurd (ne (ones_low refused 8 (λ i h. at_none i h (is_either (is_clear refused i)))))
      where
        at_none : (i : ℕ) → i < 8 → (is_clear refused i ≡ true) ⊎ (is_clear refused i ≡ false) → is_clear refused i ≡ false
        at_none i h (inl clear) = absurd (false≢true (sym none ∙ some_below-found (λ b. is_clear refused b) 8 i h clear))
        at_none i h (inr set) = set

pub window_is : (table w : List ℕ) (refused n : ℕ) → n ≡ 8 → ((b : ℕ) → b < 8 → is_clear refused b ≡ open_so_far table w b n)
    → not (bit_and refused 255 == 255) ≡ some_lets table w
window_is table w refused n whole is =
    by (is_either (bit_and refused 255 == 255)) ∙ sym (passes_is table w refused (λ b h. is b h ∙ ap (λ m. open_so_far table w b m) whole))
  where
    by : ((bit_and refused 255 == 255) ≡ true) ⊎ ((bit_and refused 255 == 255) ≡ false) → not (bit_and refused 255 == 255) ≡ some_below (λ b. is_clear refused b) 8
    by (inl full) = ap not full ∙ sym (refused_all refused (eqb-true _ _ full))
    by (inr some) = ap not some ∙ sym (refused_some refused (eqb-false _ _ some))
