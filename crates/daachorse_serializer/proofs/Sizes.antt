-- Products and sums of lengths saturate once, at the end: past the greatest number more stays past it.
use Rattle.std.proofs.Common.{◌≡◌, ℕ, zero, suc, ◌+◌, ◌*◌, ◌-◌, ◌^◌, ◌≤◌, min, arith, inl, inr, refl}
use Rattle.std.proofs.Math.Nat.{mul-le-mul_left}
use Rattle.std.proofs.lemmas.Bool.{cases_lt}

product : (most n k : ℕ) → min (min n most * k) most ≡ min (n * k) most
product most n zero = omega arith
product most n (suc k) = elim (cases_lt n most) [
  | inl less ↦ let same : min n most ≡ n = omega arith in rw same refl
  | inr more ↦
      let same : min n most ≡ most = omega arith in
      let low : most * 1 ≤ most * suc k = mul-le-mul_left most (omega arith) in
      let high : n * 1 ≤ n * suc k = mul-le-mul_left n (omega arith) in
      rw same (omega arith)
]

pub product_saturates : (n k : ℕ) → min (min n (2 ^ 64 - 1) * k) (2 ^ 64 - 1) ≡ min (n * k) (2 ^ 64 - 1)
product_saturates n k = product (2 ^ 64 - 1) n k

pub items_saturate : (n k : ℕ) → min (min (min n (2 ^ 64 - 1) * k) (2 ^ 64 - 1) + 4) (2 ^ 64 - 1) ≡ min (n * k + 4) (2 ^ 64 - 1)
items_saturate n k = let e = product_saturates n k in rw e (omega arith)
