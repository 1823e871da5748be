-- Clearing a bit that was set adds its pair to the count of the offset, and to no other.
use Rattle.std.proofs.Common.{◌≡◌, ◌≢◌, ℕ, ◌+◌, ◌/◌, ◌%◌, ◌^◌, ◌<◌, ◌⊎◌, cond, List, [], ◌∷◌, length, get_or, set, refl, sym, ap, ◌∙◌, inl}
use Rattle.std.proofs.Common.{inr, arith, get_or-set_same, get_or-set_other}
use Rattle.std.specs.Prelude.{◌==◌, replicate}
use Rattle.std.specs.List.{AllClonesOf, sum_by}
use Rattle.std.proofs.lemmas.List.{get_or-replicate}
use Rattle.std.proofs.lemmas.Bool.{cases_eq}
use Rattle.std.proofs.lemmas.Bool.Decides.{nat_tests}
use Rattle.std.proofs.lemmas.List.Sums.{sum_by-set, sum_by-cons}
use Rattle.daachorse_model.specs.Filter.{is_clear}
use Rattle.daachorse_prefilter.specs.Building.{count_clear, ArePairCounts}
use Rattle.daachorse_prefilter.proofs.ClearBits.{is_clear_ones, is_clear_cleared_same, is_clear_cleared_other}
use Rattle.daachorse_prefilter.proofs.Marking.{cleared}

-- a bit is 1 where it isn't clear
bit_value : (n : ℕ) → cond (n % 2 == 0) 1 0 + n % 2 ≡ 1
bit_value n = grind (arith, nat_tests)

-- 1 where the bit of offset j is clear
abbrev one_if_clear : ℕ → ℕ → ℕ
one_if_clear j b = cond (is_clear b j) 1 0

one_more : (after before new old bit count : ℕ) → after + old ≡ before + new → new ≡ 1 → old + bit ≡ 1 → count ≡ before
    → count + bit ≡ after
one_more after before new old bit count change one sum same = omega arith

none_more : (after before new old : ℕ) → after + old ≡ before + new → new ≡ old → before ≡ after
none_more after before new old change same = omega arith

counted_at : (entries counts : List ℕ) (k pair e : ℕ) → k < 8 → length counts ≡ 8 → pair < length entries → e ≡ get_or entries pair 0
    → ArePairCounts entries counts →
    (j : ℕ) → j < 8 → (j ≡ k) ⊎ (j ≢ k) → get_or (set counts k (get_or counts k 0 + e / 2 ^ k % 2)) j 0 ≡ count_clear
    (set entries pair (cleared e k)) j
counted_at entries counts k pair e h size inside is counted j hj (inl here) =
    ap (λ n. get_or (set counts k (get_or counts k 0 + e / 2 ^ k % 2)) n 0) here
    ∙ get_or-set_same counts k (get_or counts k 0 + e / 2 ^ k % 2) 0 (omega arith)
    ∙ one_more (count_clear (set entries pair (cleared e k)) k) (count_clear entries k) (one_if_clear k (cleared e k))
    (one_if_clear k (get_or entries pair 0)) (e / 2 ^ k % 2) (get_or counts k 0)
    (sum_by-set (one_if_clear k) entries pair (cleared e k) 0 inside)
    (ap (λ b. cond b 1 0) (is_clear_cleared_same e k h))
    (ap (λ n. one_if_clear k n + e / 2 ^ k % 2) (sym is) ∙ bit_value (e / 2 ^ k))
    (counted k h)
    ∙ ap (λ n. count_clear (set entries pair (cleared e k)) n) (sym here)
counted_at entries counts k pair e h size inside is counted j hj (inr other) =
    get_or-set_other counts k j (get_or counts k 0 + e / 2 ^ k % 2) 0 other
    ∙ counted j hj
    ∙ none_more (count_clear (set entries pair (cleared e k)) j) (count_clear entries j) (one_if_clear j (cleared e k))
    (one_if_clear j (get_or entries pair 0))
    (sum_by-set (one_if_clear j) entries pair (cleared e k) 0 inside)
    (ap (λ b. cond b 1 0) (is_clear_cleared_other e k j h hj other ∙ ap (λ n. is_clear n j) is))

pub counted_more : (entries counts : List ℕ) (k pair e : ℕ) → k < 8 → length counts ≡ 8 → pair < length entries → e ≡ get_or entries pair 0
    → ArePairCounts entries counts → ArePairCounts (set entries pair (cleared e k)) (set counts k (get_or counts k 0 + e / 2 ^ k % 2))
counted_more entries counts k pair e h size inside is counted j hj =
    counted_at entries counts k pair e h size inside is counted j hj (cases_eq j k)

-- where all bits are set, no pair may stand anywhere
none_clear : (items : List ℕ) → AllClonesOf (λ x y. y ≡ x) 255 items → (j : ℕ) → j < 8 → count_clear items j ≡ 0
none_clear [] all j h = refl
none_clear (y ∷ ys) all j h =
    let is : y ≡ 255 = elim all.0 as (λ _. y ≡ 255) [ inl e ↦ e | inr e ↦ e ] in
    let first : cond (is_clear y j) 1 0 ≡ 0 = ap (λ n. cond (is_clear n j) 1 0) is ∙ ap (λ b. cond b 1 0) (is_clear_ones j h) in
    let rest : sum_by (λ b. cond (is_clear b j) 1 0) ys ≡ 0 = none_clear ys all.1 j h in
    sum_by-cons (λ b. cond (is_clear b j) 1 0) y ys ∙ ap (λ n. n + sum_by (λ b. cond (is_clear b j) 1 0) ys) first ∙ rest_only rest
  where
    rest_only : sum_by (λ b. cond (is_clear b j) 1 0) ys ≡ 0 → 0 + sum_by (λ b. cond (is_clear b j) 1 0) ys ≡ 0
    rest_only e = omega arith

pub counted_start : (items : List ℕ) → AllClonesOf (λ x y. y ≡ x) 255 items → ArePairCounts items (replicate 8 0)
counted_start items all j h = get_or-replicate 8 j 0 0 h ∙ sym (none_clear items all j h)
