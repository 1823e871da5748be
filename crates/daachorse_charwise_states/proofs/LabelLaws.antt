-- The labels by which rows over characters are looked at, and the codes behind them.
use Rattle.std.proofs.Common.{◌≡◌, inl, inr, ℕ, ◌-◌, ◌<◌, ◌≤◌, ap, ◌∙◌, arith}
use Rattle.std.specs.Prelude.{Some}
use Rattle.std.specs.Int.{IsPowerOfTwo}
use Rattle.std.proofs.lemmas.Bool.{cases_lt}
use Rattle.std.proofs.Math.Pow.{pow_mono}
use Rattle.daachorse_charwise_states.specs.Parts.{Parts, char_code}
use Rattle.daachorse_charwise_states.specs.StateRows.{stands_for}
use Rattle.daachorse_charwise_states.specs.Valid.{IsValid}
use Rattle.daachorse_charwise_states.proofs.Codes.{block_holds, char_code-is}

-- a power of two below 2 ^ 32 is at most 2 ^ 31
power_fits : (block : ℕ) → IsPowerOfTwo block → block < 4294967296 → block ≤ 2147483648
power_fits block (k, is) below = elim (cases_lt k 32) [
  | inl low ↦ omega (arith, is, pow_mono {i = k} {j = 31} (omega (arith, low)))
  | inr high ↦ absurd (omega (arith, is, below, pow_mono {i = 32} {j = k} high))
]

module _ {V : Type 0} (p : Parts V) where
  -- codes are below the size of the alphabet, and that is at most the length of a block
  pub code_fits : IsValid p → (unit code : ℕ) → char_code p.coding unit ≡ Some code → code < 2147483648
  code_fits valid unit code coded =
      let blocks = valid.grouped.blocks in
      let low = valid.grouped.codes.below unit code (char_code-is p.coding unit code coded).1 in
      omega (arith, low, (block_holds p.coding.alphabet_size blocks.block blocks.power).1, power_fits blocks.block blocks.power.0 blocks.fits)

  -- a label from 128 on is that of a code
  pub code_behind : (label unit : ℕ) → stands_for p label unit → 128 ≤ label → char_code p.coding unit ≡ Some (label - 128)
  code_behind label unit (inl (ascii, is)) past = absurd (omega (arith, ascii, is, past))
  code_behind label unit (inr (wide, code, coded, is)) past = let same : code ≡ label - 128 = omega (arith, is) in coded ∙ ap (λ n. Some n) same

  -- and any other is a character
  pub unit_of_ascii : (label unit : ℕ) → stands_for p label unit → label < 128 → label ≡ unit
  unit_of_ascii label unit (inl (ascii, is)) low = is
  unit_of_ascii label unit (inr (wide, code, coded, is)) low = absurd (omega (arith, is, low))
