-- Clearing one bit of one entry lets one pair stand at one offset.
use Rattle.std.proofs.Common.{◌≡◌, ◌≢◌, ℕ, zero, suc, ◌+◌, ◌-◌, ◌*◌, ◌%◌, ◌^◌, ◌<◌, ◌≤◌, ◌⊎◌, Bool, true, false, ◌&&◌, ◌||◌, List, [], ◌∷◌}
use Rattle.std.proofs.Common.{length, get_or, set, refl, sym, ap, ◌∙◌, subst, inl, inr, arith, get_or-set_same, get_or-set_other}
use Rattle.std.specs.Prelude.{nat_lt, ◌==◌, bit_and}
use Rattle.std.specs.Int.{bit_not, w8}
use Rattle.std.proofs.lemmas.Bool.{cases_eq, cases_lt, lt-ltb, le-ltb, eq-eqb, ne_eqb, or_right}
use Rattle.daachorse_model.specs.Filter.{is_clear, has_pair}
use Rattle.daachorse_prefilter.proofs.ClearBits.{is_clear_cleared_same, is_clear_cleared_other}

-- the number of the pair at offset j
abbrev pub pair_at : List ℕ → ℕ → ℕ
pair_at w j = get_or w j 0 * 256 + get_or w (suc j) 0

-- the pair stands at offset j, and ends before i
abbrev pub stands : List ℕ → ℕ → ℕ → ℕ → Bool
stands w i pair j = nat_lt (suc j) i && (pair_at w j == pair)

pub has_pair_at : (pair j : ℕ) (w : List ℕ) → has_pair pair j w ≡ stands w (length w) pair j
has_pair_at pair j [] =
    let short : nat_lt (suc j) 0 ≡ false = le-ltb (suc j) 0 (omega arith) in
    rw short refl
has_pair_at pair j (a ∷ []) =
    let short : nat_lt (suc j) 1 ≡ false = le-ltb (suc j) 1 (omega arith) in
    rw short refl
has_pair_at pair zero (a ∷ b ∷ w) =
    let long : nat_lt 1 (suc (suc (length w))) ≡ true = lt-ltb 1 (suc (suc (length w))) (omega arith) in
    rw long refl
has_pair_at pair (suc j) (a ∷ b ∷ w) =
    has_pair_at pair j (b ∷ w) ∙ ap (λ t. t && (pair_at (b ∷ w) j == pair)) (same (cases_lt (suc j) (suc (length w))))
  where
    same : (suc j < suc (length w)) ⊎ (suc (length w) ≤ suc j)
        → nat_lt (suc j) (suc (length w)) ≡ nat_lt (suc (suc j)) (suc (suc (length w)))
    same (inl h) = lt-ltb _ _ h ∙ sym (lt-ltb (suc (suc j)) (suc (suc (length w))) (omega arith))
    same (inr h) = le-ltb _ _ h ∙ sym (le-ltb (suc (suc j)) (suc (suc (length w))) (omega arith))

-- each bit is that of before, or is 0 where the pair stands at its offset and ends before i
abbrev pub AreMarkedBelow : List ℕ → List ℕ → List ℕ → ℕ → Type 0
AreMarkedBelow before now w i =
    (pair j : ℕ) → pair < 65536 → j < 8 → is_clear (get_or now pair 0) j ≡ (is_clear (get_or before pair 0) j || stands w i pair j)

pub marked_end : (before now w : List ℕ) (i : ℕ) → length w ≤ i → i ≤ length w ⊎ i ≡ 1 → AreMarkedBelow before now w i → (pair j : ℕ)
    → pair < 65536 → j < 8 → is_clear (get_or now pair 0) j ≡ (is_clear (get_or before pair 0) j || has_pair pair j w)
marked_end before now w i most which marked pair j h hj =
    marked pair j h hj ∙ ap (λ t. is_clear (get_or before pair 0) j || t)
    (ap (λ t. t && (pair_at w j == pair)) (same which) ∙ sym (has_pair_at pair j w))
  where
    same : (i ≤ length w) ⊎ (i ≡ 1) → nat_lt (suc j) i ≡ nat_lt (suc j) (length w)
    same (inl least) = ap (λ n. nat_lt (suc j) n) (let e : i ≡ length w = omega arith in e)
    same (inr one) = le-ltb (suc j) i (omega arith) ∙ sym (le-ltb (suc j) (length w) (omega arith))

-- the entry of a pair with the bit of offset k cleared
abbrev pub cleared : ℕ → ℕ → ℕ
cleared e k = bit_and e (bit_not w8 (1 * 2 ^ k % 2 ^ 8))

-- the test of any other offset is the same one offset on
same_test : (i j : ℕ) → 1 ≤ i → j ≢ i - 1 → (suc j < i) ⊎ (i ≤ suc j) → nat_lt (suc j) i ≡ nat_lt (suc j) (i + 1)
same_test i j low other (inl less) = lt-ltb (suc j) i less ∙ sym (lt-ltb (suc j) (i + 1) (omega arith))
same_test i j low other (inr most) = le-ltb (suc j) i most ∙ sym (le-ltb (suc j) (i + 1) (omega arith))

marked_at : (before now w : List ℕ) (i e : ℕ) → 1 ≤ i → i ≤ 8 → pair_at w (i - 1) < length now → e ≡ get_or now (pair_at w (i - 1)) 0
    → AreMarkedBelow before now w i →
    (pair j : ℕ) → pair < 65536 → j < 8 → (pair ≡ pair_at w (i - 1)) ⊎ (pair ≢ pair_at w (i - 1)) → (j ≡ i - 1) ⊎ (j ≢ i - 1) →
    is_clear (get_or (set now (pair_at w (i - 1)) (cleared e (i - 1))) pair 0) j
    ≡ (is_clear (get_or before pair 0) j || stands w (i + 1) pair j)
marked_at before now w i e low high inside is marked pair j h hj (inl here) (inl last) =
    let long : nat_lt (suc j) (i + 1) ≡ true = lt-ltb (suc j) (i + 1) (omega arith) in
    let same : (pair_at w j == pair) ≡ true = eq-eqb _ _ (ap (λ n. pair_at w n) last ∙ sym here) in
    ap (λ n. is_clear (get_or (set now (pair_at w (i - 1)) (cleared e (i - 1))) n 0) j) here
    ∙ ap (λ n. is_clear n j) (get_or-set_same now (pair_at w (i - 1)) (cleared e (i - 1)) 0 inside)
    ∙ ap (λ n. is_clear (cleared e (i - 1)) n) last
    ∙ is_clear_cleared_same e (i - 1) (omega arith)
    ∙ sym (or_right (is_clear (get_or before pair 0) j) _ (rw (long, same) refl))
marked_at before now w i e low high inside is marked pair j h hj (inl here) (inr other) =
    ap (λ n. is_clear (get_or (set now (pair_at w (i - 1)) (cleared e (i - 1))) n 0) j) here
    ∙ ap (λ n. is_clear n j) (get_or-set_same now (pair_at w (i - 1)) (cleared e (i - 1)) 0 inside)
    ∙ is_clear_cleared_other e (i - 1) j (omega arith) hj other
    ∙ ap (λ n. is_clear n j) (is ∙ ap (λ n. get_or now n 0) (sym here))
    ∙ marked pair j h hj
    ∙ ap (λ t. is_clear (get_or before pair 0) j || (t && (pair_at w j == pair))) (same_test i j low other (cases_lt (suc j) i))
marked_at before now w i e low high inside is marked pair j h hj (inr other) (inl last) =
    let short : nat_lt (suc j) i ≡ false = le-ltb (suc j) i (omega arith) in
    let apart : (pair_at w j == pair) ≡ false = ne_eqb _ _ (λ q. other (sym q ∙ ap (λ n. pair_at w n) last)) in
    let long : nat_lt (suc j) (i + 1) ≡ true = lt-ltb (suc j) (i + 1) (omega arith) in
    ap (λ n. is_clear n j) (get_or-set_other now (pair_at w (i - 1)) pair (cleared e (i - 1)) 0 other)
    ∙ marked pair j h hj
    ∙ rw (short, apart, long) refl
marked_at before now w i e low high inside is marked pair j h hj (inr other) (inr later) =
    ap (λ n. is_clear n j) (get_or-set_other now (pair_at w (i - 1)) pair (cleared e (i - 1)) 0 other)
    ∙ marked pair j h hj
    ∙ ap (λ t. is_clear (get_or before pair 0) j || (t && (pair_at w j == pair))) (same_test i j low later (cases_lt (suc j) i))

pub marked_more : (before now w : List ℕ) (i e : ℕ) → 1 ≤ i → i ≤ 8 → pair_at w (i - 1) < length now → e ≡ get_or now (pair_at w (i - 1)) 0
    → AreMarkedBelow before now w i → AreMarkedBelow before (set now (pair_at w (i - 1)) (cleared e (i - 1))) w (i + 1)
marked_more before now w i e low high inside is marked pair j h hj =
    marked_at before now w i e low high inside is marked pair j h hj (cases_eq pair (pair_at w (i - 1))) (cases_eq j (i - 1))

pub marked_step : (before now w : List ℕ) (i pair e : ℕ) → 1 ≤ i → i ≤ 8 → pair ≡ get_or w (i - 1) 0 * 256 + get_or w i 0
    → pair < length now → e ≡ get_or now pair 0 → AreMarkedBelow before now w i
    → AreMarkedBelow before (set now pair (cleared e (i - 1))) w (i + 1)
marked_step before now w i pair e low high is inside entry marked =
    let last : suc (i - 1) ≡ i = omega arith in
    let same : pair_at w (i - 1) ≡ pair = ap (λ n. get_or w (i - 1) 0 * 256 + get_or w n 0) last ∙ sym is in
    let P : ℕ → Type 0 = λ p. AreMarkedBelow before (set now p (cleared e (i - 1))) w (i + 1) in
    subst P same (marked_more before now w i e low high (rw same inside) (rw same entry) marked)
