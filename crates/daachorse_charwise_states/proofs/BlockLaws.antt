-- The length of a block is one number, since the least power of two that is large enough is one.
use Rattle.std.proofs.Common.{◌≡◌, ℕ, zero, suc, ◌*◌, ◌/◌, ◌%◌, ◌^◌, ◌<◌, ◌≤◌, ◌⊎◌, inl, inr, sym, ap, ◌∙◌, subst, arith}
use Rattle.std.specs.Prelude.{max}
use Rattle.std.specs.Int.{IsNextPowerOfTwo}
use Rattle.std.proofs.Math.Pow.{pow_mono}
use Rattle.std.proofs.lemmas.Bool.{cases_lt}
use Rattle.daachorse_charwise_states.specs.Codings.{Coding}
use Rattle.daachorse_charwise_states.specs.Grouped.{HasBlocks}

-- a power whose half is below n is no more than one that is at least n
no_more : (n j k : ℕ) → n ≤ 2 ^ k → 2 ^ j / 2 < n → k < j → ⊥
no_more n zero k fits least less = omega (arith, less)
no_more n (suc i) k fits least less =
    let up : 2 ^ k ≤ 2 ^ i = pow_mono (omega (arith, less)) in
    let twice : 2 ^ (suc i) ≡ 2 * 2 ^ i = omega arith in
    omega (arith, up, twice, fits, least)

module _ (n p q : ℕ) (some : 0 < n) where
  next_same : IsNextPowerOfTwo n p → IsNextPowerOfTwo n q → p ≡ q
  next_same a b = go (cases_lt a.0.0 b.0.0) (cases_lt b.0.0 a.0.0)
    where
      fits : n ≤ 2 ^ a.0.0
      fits = let is : p ≡ 2 ^ a.0.0 = a.0.1 in let low : n ≤ p = a.1 in omega (arith, is, low)

      fits_too : n ≤ 2 ^ b.0.0
      fits_too = let is : q ≡ 2 ^ b.0.0 = b.0.1 in let low : n ≤ q = b.1 in omega (arith, is, low)

      least : 2 ^ a.0.0 / 2 < n
      least = let half : p / 2 < max 1 n = a.2 in let P : ℕ → Type 0 = λ x. x / 2 < max 1 n in let same : 2 ^ a.0.0 / 2 < max 1 n = subst P a.0.1 half in omega (arith, same, some)

      least_too : 2 ^ b.0.0 / 2 < n
      least_too = let half : q / 2 < max 1 n = b.2 in let P : ℕ → Type 0 = λ x. x / 2 < max 1 n in let same : 2 ^ b.0.0 / 2 < max 1 n = subst P b.0.1 half in omega (arith, same, some)

      go : (a.0.0 < b.0.0) ⊎ (b.0.0 ≤ a.0.0) → (b.0.0 < a.0.0) ⊎ (a.0.0 ≤ b.0.0) → p ≡ q
      go (inl less) other = absurd (no_more n b.0.0 a.0.0 fits least_too less)
      go (inr high) (inl less) = absurd (no_more n a.0.0 b.0.0 fits_too least less)
      go (inr high) (inr low) = let same : a.0.0 ≡ b.0.0 = omega (arith, high, low) in a.0.1 ∙ (ap (λ k. 2 ^ k) same ∙ sym b.0.1)

-- there is no block past 2^31
pub no_block : (coding : Coding) (n : ℕ) → 2 ^ 31 < coding.alphabet_size → HasBlocks coding n → ⊥
no_block coding n past has = go (cases_lt has.power.0.0 32)
  where
    power : has.block ≡ 2 ^ has.power.0.0
    power = has.power.0.1

    go : (has.power.0.0 < 32) ⊎ (32 ≤ has.power.0.0) → ⊥
    go (inl low) =
        let up : 2 ^ has.power.0.0 ≤ 2 ^ 31 = pow_mono (let less : has.power.0.0 ≤ 31 = omega (arith, low) in less) in
        let fits : max 2 coding.alphabet_size ≤ has.block = has.power.1 in
        omega (arith, up, power, past, fits)
    go (inr high) =
        let up : 2 ^ 32 ≤ 2 ^ has.power.0.0 = pow_mono high in
        let less : has.block < 4294967296 = has.fits in
        omega (arith, up, power, less)

-- whole blocks are whole by the length of a block
pub whole_blocks : (coding : Coding) (n p : ℕ) → IsNextPowerOfTwo (max 2 coding.alphabet_size) p → HasBlocks coding n → n % p ≡ 0
whole_blocks coding n p least has =
    let some : 0 < max 2 coding.alphabet_size = omega arith in
    let same : has.block ≡ p = next_same (max 2 coding.alphabet_size) has.block p some has.power least in
    let P : ℕ → Type 0 = λ b. n % b ≡ 0 in
    subst P same has.whole
