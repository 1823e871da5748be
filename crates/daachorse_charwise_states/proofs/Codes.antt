-- The codes of the characters that label edges tell them apart, and are below the length of a block.
use Rattle.std.proofs.Common.{◌≡◌, ℕ, ◌<◌, ◌≤◌, Bool, true, false, cond, List, length, Option, Some, None, refl, sym, ap, ◌∙◌, subst, arith}
use Rattle.std.specs.Char.{IsScalar}
use Rattle.std.specs.Prelude.{◌^◌, MatchOption, is_some, max, slice_get, unwrap_or}
use Rattle.std.specs.Int.{IsNextPowerOfTwo}
use Rattle.std.proofs.Math.Utf8.{scalar}
use Rattle.std.proofs.lemmas.Option.{same_Some, slice_get_within}
use Rattle.std.specs.Ordering.{nat_cmp}
use Rattle.daachorse_build.specs.Tables.{child_in}
use Rattle.daachorse_charwise_states.specs.Codings.{Coding, IsCoding, code_of}
use Rattle.daachorse_charwise_states.proofs.Taken.{entry_some}
use Rattle.daachorse_charwise_states.specs.Packing.{AreEdgesCoded, code_in}
use Rattle.daachorse_charwise_states.specs.Parts.{char_code}

module _ (coding : Coding) (u : ℕ) where
  -- what has a character's code is a character, and the table has the code
  pub char_code-is : (k : ℕ) → char_code coding u ≡ Some k → IsScalar u × (code_of coding u ≡ Some k)
  char_code-is k e = go (scalar u) e
    where
      go : (b : Bool) → cond b (code_of coding u) None ≡ Some k → (b ≡ true) × (code_of coding u ≡ Some k)
      go true is = (refl, is)
      go false is = absurd (cc)

  -- a character has the code of the table
  pub char_code-of : IsScalar u → char_code coding u ≡ code_of coding u
  char_code-of is = ap (λ b. cond b (code_of coding u) None) is

  -- a character with a code stands in the table
  pub coded_inside : (k : ℕ) → char_code coding u ≡ Some k → u < length coding.table
  coded_inside k e = let entry = entry_some (slice_get coding.table u) k (char_code-is k e).1 in slice_get_within coding.table u entry.0 entry.1

  -- a code that is there
  some_code : is_some (char_code coding u) ≡ true → (k : ℕ) × (code_of coding u ≡ Some k) × (code_in coding u ≡ k)
  some_code some = go (char_code coding u) refl some
    where
      go : (o : Option ℕ) → char_code coding u ≡ o → is_some o ≡ true → (k : ℕ) × (code_of coding u ≡ Some k) × (code_in coding u ≡ k)
      go None e none = absurd (cc)
      go (Some k) e is = let code = (char_code-is k e).1 in (k, code, ap (λ o. unwrap_or o 0) code)

module _ (coding : Coding) (is : IsCoding coding) where
  pub code_below : (block : ℕ) → 2 ≤ block → coding.alphabet_size ≤ block → (c : ℕ) → code_in coding c < block
  code_below block two fits c = go (code_of coding c) refl
    where
      go : (o : Option ℕ) → code_of coding c ≡ o → unwrap_or o 0 < block
      go None e = omega arith
      go (Some k) e = let low : k < coding.alphabet_size = is.below c k e in omega (arith, low)

  pub code_given : (block : ℕ) → 2 ≤ block → coding.alphabet_size ≤ block → (c r : ℕ) → r ≡ code_in coding c → r < block
  code_given block two fits c r is = let P : ℕ → Type 0 = λ n. n < block in subst P (sym is) (code_below block two fits c)

  -- a character whose code is that of one that has a code
  pub code_same : (c d : ℕ) (k : ℕ) → code_of coding c ≡ Some k → is_some (char_code coding d) ≡ true → code_in coding d ≡ k → d ≡ c
  code_same c d k e some same =
      let found = some_code coding d some in
      let at : found.0 ≡ k = sym found.2 ∙ same in
      is.injective d c k (found.1 ∙ ap (λ x. Some x) at) e

  pub code_apart : (edges : List (List (ℕ × ℕ))) → AreEdgesCoded coding edges → (s c d t u : ℕ) → child_in nat_cmp edges s c ≡ Some t → child_in nat_cmp edges s d ≡ Some u → code_in coding c ≡ code_in coding d → c ≡ d
  code_apart edges coded s c d t u e f same =
      let found = some_code coding d (coded s d u f) in
      code_same d c found.0 found.1 (coded s c t e) (same ∙ found.2)

-- ---- the length of a block
pub block_some : (n : ℕ) (o : Option ℕ) → MatchOption o (2 ^ 31 < n) (λ p. IsNextPowerOfTwo (max 2 n) p) → n ≤ 2 ^ 31 → is_some o ≡ true
block_some n None past fits = absurd (omega (arith, past, fits))
block_some n (Some p) least fits = refl

pub block_least : (n : ℕ) (o : Option ℕ) (p : ℕ) → MatchOption o (2 ^ 31 < n) (λ p. IsNextPowerOfTwo (max 2 n) p) → o ≡ Some p → IsNextPowerOfTwo (max 2 n) p
block_least n None p past is = absurd (cc)
block_least n (Some q) p least is = let same : q ≡ p = same_Some q p is in subst (λ (x : ℕ). IsNextPowerOfTwo (max 2 n) x) same least

pub block_holds : (n p : ℕ) → IsNextPowerOfTwo (max 2 n) p → (2 ≤ p) × (n ≤ p)
block_holds n p least = let fits : max 2 n ≤ p = least.1 in (grind (arith, fits), grind (arith, fits))
