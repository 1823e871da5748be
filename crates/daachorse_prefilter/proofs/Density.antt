-- An offset has at most 65,536 pairs, so only the product over all eight offsets can pass 128 bits, and it is then too large.
use Rattle.std.proofs.Common.{◌≡◌, ℕ, suc, ◌+◌, ◌-◌, ◌*◌, ◌^◌, ◌<◌, ◌≤◌, ◌⊎◌, false, List, length, sym, ap, ◌∙◌, inl, inr, arith}
use Rattle.std.proofs.lemmas.Nat.{pow-add, mul-le, pow_below}
use Rattle.std.proofs.lemmas.Bool.{cases_lt, lt-leb}
use Rattle.std.proofs.lemmas.List.Sums.{count_by-le-length}
use Rattle.daachorse_model.specs.Filter.{is_clear}
use Rattle.daachorse_prefilter.specs.Building.{count_clear, count_ways, is_sparse}

pub ways_more : (entries : List ℕ) (k : ℕ) → count_ways entries (k + 1) ≡ count_ways entries k * count_clear entries k
ways_more entries k = ap (λ n. count_ways entries n) (let e : k + 1 ≡ suc k = omega arith in e)

pub few_ways : (entries : List ℕ) (k ways count : ℕ) → length entries ≡ 65536 → ways ≤ 2 ^ (16 * k) → count ≡ count_clear entries k
    → ways * count ≤ 2 ^ (16 * (k + 1))
few_ways entries k ways count size low e =
    let few : count ≤ 2 ^ 16 = omega (arith, count_by-le-length (λ b. is_clear b k) entries) in
    let exponent : 16 * (k + 1) ≡ 16 * k + 16 = omega arith in
    rw (exponent, pow-add) (mul-le ways count (2 ^ (16 * k)) (2 ^ 16) low few)

pow_le : (i j : ℕ) → i ≤ j → 2 ^ i ≤ 2 ^ j
pow_le i j h = elim (cases_lt i j) [
  | inl less ↦ (let p = pow_below i j less in omega arith)
  | inr most ↦
      (let e : i ≡ j = omega arith in rw e (let q : 2 ^ j ≤ 2 ^ j = omega arith in q))
]

-- a product that is too large for 128 bits is that of all eight offsets
pub too_many : (entries : List ℕ) (k n ways count : ℕ) → length entries ≡ 65536 → k < n → n ≤ 8 → ways ≡ count_ways entries k
    → ways ≤ 2 ^ (16 * k) → count ≡ count_clear entries k → 2 ^ 128 ≤ ways * count → is_sparse entries n ≡ false
too_many entries k n ways count size less most is low e large =
    let few = few_ways entries k ways count size low e in
    by (cases_lt k 7) few
  where
    by : (k < 7) ⊎ (7 ≤ k) → ways * count ≤ 2 ^ (16 * (k + 1)) → is_sparse entries n ≡ false
    by (inl early) few = (let bound = pow_le (16 * (k + 1)) 112 (omega arith) in absurd (omega arith))
    by (inr last) few =
        let seven : k ≡ 7 = omega arith in
        let eight : n ≡ suc k = omega arith in
        let whole : count_ways entries (suc k) ≡ ways * count = sym (ap (λ w. w * count_clear entries k) is) ∙ ap (λ c. ways * c) (sym e) in
        let bound : 16 * suc k - 4 ≡ 124 = omega arith in
        rw (eight, whole, bound) (lt-leb (ways * count) (2 ^ 124) (omega arith))
