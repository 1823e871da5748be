-- Slots do not tell in which case a letter is read.
use Rattle.std.proofs.Common.{◌≡◌, ℕ, ◌+◌, ◌-◌, ◌*◌, ◌%◌, ◌^◌, ◌<◌, ◌≤◌, ◌⊎◌, inl, inr, List, drop, length, get_or, map, sym, ap, ◌∙◌, arith}
use Rattle.std.specs.Prelude.{bit_or}
use Rattle.std.proofs.lemmas.Bool.{cases_lt}
use Rattle.std.proofs.lemmas.List.{drop-map, get_or-map, get_or_past, length-map}
use Rattle.std.proofs.lemmas.Nat.{or_block}
use Rattle.std.specs.Int.Bits.{or_zero_r}
use Rattle.daachorse_model.specs.Filter.{is_clear}
use Rattle.daachorse_prefilter.specs.Buckets.{lets, some_lets, slot_at}
use Rattle.daachorse_prefilter.proofs.BucketWindows.{all_below-same, some_below-same}

-- the lower three of four bytes with the bits of their cases set
pub joined : (a b c d : ℕ) → a < 256 → b < 256 → c < 256
    → bit_or (a + 256 * b + 65536 * c + 16777216 * d) 2105376 ≡ bit_or (a % 256) 32 + 256 * bit_or (b % 256) 32 + 65536 * bit_or (c % 256) 32 + 16777216 * d
joined a b c d ha hb hc =
    let sum : a + 256 * b + 65536 * c + 16777216 * d ≡ (b + 256 * c + 65536 * d) * 2 ^ 8 + a = omega arith in
    let more : b + 256 * c + 65536 * d ≡ (c + 256 * d) * 2 ^ 8 + b = omega arith in
    let last : c + 256 * d ≡ d * 2 ^ 8 + c = omega arith in
    let one = ap (λ n. bit_or n 2105376) sum ∙ or_block 8 (b + 256 * c + 65536 * d) 8224 a 32 ha (omega arith) in
    let two = ap (λ n. bit_or n 8224) more ∙ or_block 8 (c + 256 * d) 32 b 32 hb (omega arith) in
    let three = ap (λ n. bit_or n 32) last ∙ or_block 8 d 0 c 32 hc (omega arith) in
    let four = or_zero_r d in
    let at_a : a % 256 ≡ a = omega arith in
    let at_b : b % 256 ≡ b = omega arith in
    let at_c : c % 256 ≡ c = omega arith in
    let same_a = ap (λ n. bit_or n 32) at_a in
    let same_b = ap (λ n. bit_or n 32) at_b in
    let same_c = ap (λ n. bit_or n 32) at_c in
    omega arith

-- a reading that keeps each byte, but for the bit of its case, keeps the slots
module _ (f : ℕ → ℕ) (keeps : (b : ℕ) → bit_or (f b % 256) 32 ≡ bit_or (b % 256) 32) where
  unit_kept : (w : List ℕ) (k : ℕ) → bit_or (get_or (map f w) k 0 % 256) 32 ≡ bit_or (get_or w k 0 % 256) 32
  unit_kept w k = by (cases_lt k (length w))
    where
      by : (k < length w) ⊎ (length w ≤ k) → bit_or (get_or (map f w) k 0 % 256) 32 ≡ bit_or (get_or w k 0 % 256) 32
      by (inl inside) = ap (λ n. bit_or (n % 256) 32) (get_or-map f w k 0 0 inside) ∙ keeps (get_or w k 0)
      by (inr past) = ap (λ n. bit_or (n % 256) 32) (get_or_past (map f w) k 0 (omega (arith, past, length-map w f)) ∙ sym (get_or_past w k 0 past))

  slot_at-kept : (w : List ℕ) (k : ℕ) → slot_at (map f w) k ≡ slot_at w k
  slot_at-kept w k =
      let a = unit_kept w k in
      let b = unit_kept w (k + 1) in
      let c = unit_kept w (k + 2) in
      omega arith

  lets-kept : (table : List ℕ) (b : ℕ) (w : List ℕ) → lets table b (map f w) ≡ lets table b w
  unfolding lets
  lets-kept table b w = all_below-same _ _ 8 (λ k h. ap (λ y. is_clear (get_or table y 0) (56 - 8 * k + b)) (slot_at-kept w k))

  pub some_lets-kept : (table text : List ℕ) (place : ℕ) → some_lets table (drop place (map f text)) ≡ some_lets table (drop place text)
  unfolding some_lets
  some_lets-kept table text place =
      ap (some_lets table) (drop-map f place text) ∙ some_below-same _ _ 8 (λ b h. lets-kept table b (drop place text))
