-- A label below the length of a block, a power of two, moves an index within its block, and moving twice leads back.
use Rattle.std.proofs.Common.{◌≡◌, ℕ, ◌+◌, ◌*◌, ◌/◌, ◌^◌, ◌<◌, ◌≤◌, bit_xor, arith, ap, sym, ◌∙◌, subst}
use Rattle.std.proofs.lemmas.Nat.{xor_shr, xor_comm, div_below}
use Rattle.std.proofs.Math.Nat.{div-eq_of_lt, lt-div-mul-add, div-mul-le_self}
use Rattle.std.specs.Int.Bits.{xor_zero_r, xor_self, xor_assoc}
use Rattle.std.specs.Int.{IsPowerOfTwo}

-- a label moves an index within its block
pub xor_block_pow : (b k c : ℕ) → c < 2 ^ k → bit_xor b c / 2 ^ k ≡ b / 2 ^ k
xor_block_pow b k c h =
    let small : c / 2 ^ k ≡ 0 = div-eq_of_lt h in
    let moved : bit_xor b c / 2 ^ k ≡ bit_xor (b / 2 ^ k) (c / 2 ^ k) = xor_shr b c k in
    moved ∙ (ap (λ q. bit_xor (b / 2 ^ k) q) small ∙ xor_zero_r (b / 2 ^ k))

pub xor_block : (n b c : ℕ) → IsPowerOfTwo n → c < n → bit_xor b c / n ≡ b / n
xor_block n b c p h =
    let k = p.0 in
    let h2 : c < 2 ^ k = subst (λ (m : ℕ). c < m) p.1 h in
    subst (λ (m : ℕ). bit_xor b c / m ≡ b / m) (sym p.1) (xor_block_pow b k c h2)

-- what a block q of length n contains
pub in_block : (n q i : ℕ) → 0 < n → i / n ≡ q → (q * n ≤ i) × (i < q * n + n)
in_block n q i pos e =
    let low : i / n * n ≤ i = div-mul-le_self i n in
    let high : i < i / n * n + n = lt-div-mul-add pos in
    (subst (λ (m : ℕ). m * n ≤ i) e low, subst (λ (m : ℕ). i < m * n + n) e high)

-- in an array of whole blocks, a label leads from an index to one in its block
pub xor_range : (n q b c : ℕ) → IsPowerOfTwo n → c < n → q * n ≤ b → b < q * n + n → (q * n ≤ bit_xor b c) × (bit_xor b c < q * n + n)
xor_range n q b c p h low high =
    let same : bit_xor b c / n ≡ b / n = xor_block n b c p h in
    let at : b / n ≡ q = grind arith in
    in_block n q (bit_xor b c) (omega arith) (same ∙ at)

-- in an array of m blocks, it stays within the array
pub xor_inside : (n m b c : ℕ) → IsPowerOfTwo n → c < n → b < m * n → bit_xor b c < m * n
xor_inside n m b c p h inside =
    let same : bit_xor b c / n ≡ b / n = xor_block n b c p h in
    let pos : 0 < n = omega arith in
    let less : b / n < m = div_below b n m pos inside in
    let high = (in_block n (b / n) (bit_xor b c) pos same).1 in
    let step : (b / n) * n + n ≤ m * n = grind arith in
    omega (arith, high, step)

pub xor_back : (a b : ℕ) → bit_xor (bit_xor a b) b ≡ a
xor_back a b = xor_assoc a b b ∙ (ap (λ z. bit_xor a z) (xor_self b) ∙ xor_zero_r a)

pub xor_same_left : (a b c : ℕ) → bit_xor a b ≡ bit_xor a c → b ≡ c
xor_same_left a b c e =
    let e2 : bit_xor b a ≡ bit_xor c a = xor_comm b a ∙ (e ∙ xor_comm a c) in
    sym (xor_back b a) ∙ (ap (λ z. bit_xor z a) e2 ∙ xor_back c a)
