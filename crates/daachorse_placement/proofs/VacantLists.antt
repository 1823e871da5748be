-- The list of the vacant elements, from one element to the next.
use Rattle.std.proofs.Common.{List, length, get_or, ◌≡◌, ℕ, ◌+◌, ◌-◌, ◌<◌, ◌≤◌, zero, suc, Bool, true, false, not, cond, [], ◌∷◌, arith, ap, ◌∙◌}
use Rattle.std.specs.List.{filter, range_with_len}
use Rattle.daachorse_placement.specs.Layout.{vacant_from}

pub filter_skip : (p : ℕ → Bool) (d a n : ℕ) → ((k : ℕ) → a ≤ k → k < a + d → p k ≡ false) → filter p (range_with_len a (d + n)) ≡ filter p (range_with_len (a + d) n)
filter_skip p zero a n h = let e : 0 + n ≡ n = omega arith in let f : a ≡ a + 0 = omega arith in ap (λ m. filter p (range_with_len a m)) e ∙ ap (λ m. filter p (range_with_len m n)) f
filter_skip p (suc d) a n h =
    let e : suc d + n ≡ suc (d + n) = omega arith in
    let f : (a + 1) + d ≡ a + suc d = omega arith in
    let off : p a ≡ false = h a (omega arith) (omega arith) in
    ap (λ m. filter p (range_with_len a m)) e
    ∙ (ap (λ b. cond b (a ∷ filter p (range_with_len (a + 1) (d + n))) (filter p (range_with_len (a + 1) (d + n)))) off
    ∙ (filter_skip p d (a + 1) n (λ k low less. h k (omega arith) (omega arith)) ∙ ap (λ m. filter p (range_with_len m n)) f))

pub vacant_skip : (used : List Bool) (i r : ℕ) → i ≤ r → r ≤ length used → ((k : ℕ) → i ≤ k → k < r → get_or used k false ≡ true) → vacant_from used i ≡ vacant_from used r
vacant_skip used i r low high over =
    let split : length used - i ≡ (r - i) + (length used - r) = omega arith in
    let back : i + (r - i) ≡ r = omega arith in
    ap (λ m. filter (λ k. not (get_or used k false)) (range_with_len i m)) split
    ∙ (filter_skip (λ k. not (get_or used k false)) (r - i) i (length used - r) (λ k lo hi. ap not (over k lo (omega arith)))
    ∙ ap (λ m. filter (λ k. not (get_or used k false)) (range_with_len m (length used - r))) back)

pub vacant_here : (used : List Bool) (r : ℕ) → r < length used → get_or used r false ≡ false → vacant_from used r ≡ r ∷ vacant_from used (r + 1)
vacant_here used r lt off =
    let more : length used - r ≡ suc (length used - (r + 1)) = omega arith in
    let on : not (get_or used r false) ≡ true = ap not off in
    ap (λ m. filter (λ k. not (get_or used k false)) (range_with_len r m)) more
    ∙ ap (λ b. cond b (r ∷ vacant_from used (r + 1)) (vacant_from used (r + 1))) on

pub vacant_end : (used : List Bool) (r : ℕ) → length used ≤ r → vacant_from used r ≡ []
vacant_end used r le = let none : length used - r ≡ 0 = omega arith in ap (λ m. filter (λ k. not (get_or used k false)) (range_with_len r m)) none
