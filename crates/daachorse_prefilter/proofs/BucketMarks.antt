-- What each step of the builder of buckets opens, and that a pattern's window passes where all of its bits are open.
use Rattle.std.proofs.Common.{◌≡◌, ◌≢◌, ◌⊎◌, inl, inr, ℕ, suc, ◌+◌, ◌-◌, ◌*◌, ◌/◌, ◌%◌, ◌^◌, ◌<◌, ◌≤◌, Bool, true, false, ◌&&◌, List, ◌++◌}
use Rattle.std.proofs.Common.{length, get_or, map, set, refl, sym, ap, ◌∙◌, arith, get_or-set_same, get_or-set_other}
use Rattle.std.specs.Prelude.{◌==◌, ◌||◌, nat_le, bit_and, bit_or}
use Rattle.std.specs.Int.{bit_not, w64}
use Rattle.std.proofs.lemmas.Bool.{and_from, cases_eq, cases_lt, eq-eqb, le-leb}
use Rattle.std.proofs.lemmas.Bool.Decides.{eqb_tells, nat_tests}
use Rattle.std.proofs.lemmas.List.{get_or-map, get_or_append_left}
use Rattle.daachorse_model.specs.Filter.{is_clear}
use Rattle.daachorse_prefilter.specs.Buckets.{IsMarked, has_slot, is_clear_at, is_open, lets, opens, slot, slot_at, some_below, some_lets}
use Rattle.daachorse_prefilter.proofs.BucketWindows.{all_below-all, some_below-found}
use Rattle.daachorse_prefilter.proofs.ClearBits.{is_clear-and, is_clear_unset}

-- ---- tests that are joined

and_true : (a b : Bool) → b ≡ true → (a && b) ≡ a
and_true true b e = e
and_true false b e = refl

or_and_false : (a b c : Bool) → c ≡ false → (a || (b && c)) ≡ a
or_and_false true b c e = refl
or_and_false false true c e = e
or_and_false false false c e = refl

last_first : (p q m : Bool) → ((p || q) || m) ≡ ((p || m) || q)
last_first true q m = refl
last_first false true true = refl
last_first false true false = refl
last_first false false true = refl
last_first false false false = refl

one_more : (p s u : Bool) → ((p || s) || u) ≡ (p || (u || s))
one_more true s u = refl
one_more false true true = refl
one_more false true false = refl
one_more false false true = refl
one_more false false false = refl

in_bit : (t u s : Bool) → ((t && u) || (t && s)) ≡ (t && (u || s))
in_bit true u s = refl
in_bit false u s = refl

-- ---- what a step opens

-- a bit of an entry that has joined the mask
pub closed_at : (entries : List ℕ) (mask y i : ℕ) → y < length entries
    → is_clear_at (map (λ e. bit_and e mask) entries) y i ≡ is_open entries mask y i
closed_at entries mask y i h = ap (λ n. is_clear n i) (get_or-map (λ e. bit_and e mask) entries y 0 0 h)
    ∙ is_clear-and (get_or entries y 0) mask i

-- a bit of one entry
pub unset_opens : (entries : List ℕ) (x bit y i : ℕ) → x < length entries → bit < 64 → i < 64
    → is_clear (get_or (set entries x (bit_and (get_or entries x 0) (bit_not w64 (1 * 2 ^ bit % 2 ^ 64)))) y 0) i
    ≡ (is_clear (get_or entries y 0) i || ((i == bit) && (y == x)))
unset_opens entries x bit y i inside h within = by (eqb_tells y x)
  where
    new : ℕ
    new = bit_and (get_or entries x 0) (bit_not w64 (1 * 2 ^ bit % 2 ^ 64))

    by : ((y == x) ≡ true) × (y ≡ x) ⊎ ((y == x) ≡ false) × (y ≢ x)
        → is_clear (get_or (set entries x new) y 0) i ≡ (is_clear (get_or entries y 0) i || ((i == bit) && (y == x)))
    by (inl (test, same)) =
        ap (λ z. is_clear (get_or (set entries x new) z 0) i) same ∙ ap (λ n. is_clear n i) (get_or-set_same entries x new 0 inside)
        ∙ is_clear_unset (get_or entries x 0) bit i h within
        ∙ ap (λ b. is_clear (get_or entries x 0) i || b) (sym (and_true (i == bit) (y == x) test))
        ∙ ap (λ z. is_clear (get_or entries z 0) i || ((i == bit) && (y == x))) (sym same)
    by (inr (test, other)) = ap (λ n. is_clear n i) (get_or-set_other entries x y new 0 other)
        ∙ sym (or_and_false (is_clear (get_or entries y 0) i) (i == bit) (y == x) test)

fits_not : (n m : ℕ) → m < n → nat_le n m ≡ false
fits_not n m h = grind (arith, nat_tests)

other_than : (n m : ℕ) → n ≢ m → (n == m) ≡ false
other_than n m h = grind (arith, nat_tests)

module _ (pattern : List ℕ) (k y : ℕ) where
  pub three_slots : k + 3 ≤ length pattern → has_slot pattern k y
      ≡ (y == slot (get_or pattern k 0) (get_or pattern (k + 1) 0) (get_or pattern (k + 2) 0))
  unfolding has_slot
  three_slots h = let fits : nat_le (k + 3) (length pattern) ≡ true = le-leb (k + 3) (length pattern) h in rw fits refl

  pub two_slots : k + 2 ≡ length pattern → has_slot pattern k y ≡ some_below
      (λ c. y == slot (get_or pattern k 0) (get_or pattern (k + 1) 0) c) 256
  unfolding has_slot
  two_slots h =
      let short : nat_le (k + 3) (length pattern) ≡ false = fits_not (k + 3) (length pattern) (omega arith) in
      let two : (k + 2 == length pattern) ≡ true = eq-eqb (k + 2) (length pattern) h in
      rw (short, two) refl

  pub any_slots : length pattern < k + 2 → has_slot pattern k y ≡ true
  unfolding has_slot
  any_slots h =
      let short : nat_le (k + 3) (length pattern) ≡ false = fits_not (k + 3) (length pattern) (omega arith) in
      let fewer : (k + 2 == length pattern) ≡ false = other_than (k + 2) (length pattern) (λ e. omega arith) in
      rw (short, fewer) refl

-- all three bytes are known
pub opens_three : (old new m t s y : Bool) → new ≡ (old || (t && s)) → y ≡ s → (new || m) ≡ ((old || m) || (t && y))
opens_three old new m t s y is e = ap (λ b. b || m) is ∙ last_first old (t && s) m ∙ ap (λ b. (old || m) || (t && b)) (sym e)

-- one third byte more
pub opens_byte : (old cur new t : Bool) (f : ℕ → Bool) (n : ℕ) → cur ≡ (old || (t && some_below f n)) → new ≡ (cur || (t && f n))
    → new ≡ (old || (t && some_below f (n + 1)))
unfolding some_below
opens_byte old cur new t f n before is =
    let next : suc n ≡ n + 1 = omega arith in
    is ∙ ap (λ b. b || (t && f n)) before ∙ one_more old (t && some_below f n) (t && f n)
    ∙ ap (λ b. old || b) (in_bit t (f n) (some_below f n)) ∙ ap (λ m. old || (t && some_below f m)) next

-- no third byte yet
pub opens_none : (old t : Bool) (f : ℕ → Bool) → old ≡ (old || (t && some_below f 0))
unfolding some_below
opens_none old t f = sym (or_and_false old t false refl)

-- in the mask
pub opens_any : (p m t y n : Bool) → n ≡ (m || t) → y ≡ true → (p || n) ≡ ((p || m) || (t && y))
opens_any true m t y n is e = refl
opens_any false m t y n is e = is ∙ ap (λ b. m || b) (sym (and_true t y e))

-- one offset more
module _ (pattern : List ℕ) (bucket : ℕ) where
  pub opens_first : (y i : ℕ) (old : Bool) → old ≡ (old || opens pattern bucket 0 y i)
  unfolding opens some_below
  opens_first y i true = refl
  opens_first y i false = refl

  pub opens_next : (k y i : ℕ) (old cur new : Bool) → cur ≡ (old || opens pattern bucket k y i)
      → new ≡ (cur || ((i == 56 - 8 * k + bucket) && has_slot pattern k y)) → new ≡ (old || opens pattern bucket (k + 1) y i)
  unfolding opens some_below
  opens_next k y i old cur new before is =
      let next : suc k ≡ k + 1 = omega arith in
      is ∙ ap (λ b. b || ((i == 56 - 8 * k + bucket) && has_slot pattern k y)) before
      ∙ one_more old (opens pattern bucket k y i) ((i == 56 - 8 * k + bucket) && has_slot pattern k y)
      ∙ ap (λ m. old || opens pattern bucket m y i) next

  pub opens_all : (k y i : ℕ) (old new : Bool) → k ≡ 8 → new ≡ (old || opens pattern bucket k y i)
      → new ≡ (old || opens pattern bucket 8 y i)
  opens_all k y i old new whole is = is ∙ ap (λ n. old || opens pattern bucket n y i) whole

-- ---- a pattern whose bits are open

slot_same : (a b c a' b' c' : ℕ) → a ≡ a' → b ≡ b' → c ≡ c' → slot a b c ≡ slot a' b' c'
slot_same a b c a' b' c' e f g = ap (λ n. slot n b c) e ∙ ap (λ n. slot a' n c) f ∙ ap (λ n. slot a' b' n) g

slot_low : (a b c : ℕ) → slot a b c ≡ slot a b (c % 256)
slot_low a b c =
    let low : c % 256 ≡ c % 256 % 256 = omega arith in
    ap (λ n. ((bit_or (a % 256) 32 + 256 * bit_or (b % 256) 32 + 65536 * bit_or n 32) * 2246822400) % 2 ^ 32 / 2 ^ 19) low

slot_below : (a b c : ℕ) → slot a b c < 8192
slot_below a b c = omega arith

-- the slot of a text that begins with a pattern is the pattern's
own_slot : (pattern rest : List ℕ) (k : ℕ) → has_slot pattern k (slot_at (pattern ++ rest) k) ≡ true
own_slot pattern rest k = by (cases_lt (length pattern) (k + 3)) (cases_eq (k + 2) (length pattern))
  where
    w : List ℕ
    w = pattern ++ rest

    at : (j : ℕ) → j < length pattern → get_or w j 0 ≡ get_or pattern j 0
    at j h = get_or_append_left pattern rest 0 j h

    by : (length pattern < k + 3) ⊎ (k + 3 ≤ length pattern) → (k + 2 ≡ length pattern) ⊎ (k + 2 ≡ length pattern → ⊥)
        → has_slot pattern k (slot_at w k) ≡ true
    by (inr long) which =
        three_slots pattern k (slot_at w k) long
        ∙ eq-eqb _ _ (slot_same _ _ _ _ _ _ (at k (omega arith)) (at (k + 1) (omega arith)) (at (k + 2) (omega arith)))
    by (inl short) (inl two) =
        let third = get_or w (k + 2) 0 in
        two_slots pattern k (slot_at w k) two
        ∙ some_below-found (λ c. slot_at w k == slot (get_or pattern k 0) (get_or pattern (k + 1) 0) c) 256 (third % 256) (omega arith)
        (eq-eqb _ _ (slot_same _ _ _ _ _ third (at k (omega arith)) (at (k + 1) (omega arith)) refl
        ∙ slot_low (get_or pattern k 0) (get_or pattern (k + 1) 0) third))
    by (inl short) (inr fewer) = any_slots pattern k (slot_at w k) (let apart : k + 2 ≢ length pattern = fewer in omega arith)

-- wherever a pattern begins that is marked, its bucket lets the window pass
pub marked_lets : (table pattern rest : List ℕ) → IsMarked table pattern → some_lets table (pattern ++ rest) ≡ true
unfolding some_lets lets opens
marked_lets table pattern rest m =
    some_below-found (λ b. lets table b (pattern ++ rest)) 8 m.bucket m.below
    (all_below-all (λ k. is_clear (get_or table (slot_at (pattern ++ rest) k) 0) (56 - 8 * k + m.bucket)) 8
    (λ k h. let low = m.below in
    m.clear (slot_at (pattern ++ rest) k) (56 - 8 * k + m.bucket) (slot_below _ _ _) (omega arith)
    (some_below-found (λ j. (56 - 8 * k + m.bucket == 56 - 8 * j + m.bucket) && has_slot pattern j (slot_at (pattern ++ rest) k)) 8 k h
    (and_from _ _ (eq-eqb (56 - 8 * k + m.bucket) (56 - 8 * k + m.bucket) refl) (own_slot pattern rest k)))))
