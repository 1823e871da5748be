-- A coding of characters: a table with an entry for each code point up to the greatest that has a code, and the size of
-- the alphabet. The greatest number of 32 bits stands for no code.
use Rattle.std.specs.Prelude.{◌≡◌, ℕ, ◌<◌, ◌≤◌, ◌↔◌, ◌==◌, nat_lt, if◌then◌else◌, List, length, slice_get, slice_index, Option, Some, None, IsSome, count_by}

pub record Coding : Type 0 where
  pub table : List ℕ
  pub alphabet_size : ℕ

-- the code that an entry gives
abbrev pub entry_code : Option ℕ → Option ℕ
entry_code None = None
entry_code (Some n) = if n == 4294967295 then None else Some n

-- the code at a code point
abbrev pub code_of : Coding → ℕ → Option ℕ
code_of m c = entry_code (slice_get m.table c)

-- codes are below the size of the alphabet, and no two code points have the same
pub record IsCoding (m : Coding) : Type 0 where
  pub below : (c k : ℕ) → code_of m c ≡ Some k → k < m.alphabet_size
  pub injective : (c d k : ℕ) → code_of m c ≡ Some k → code_of m d ≡ Some k → c ≡ d

-- the coding of these frequencies, by code point
pub record IsCodingOf (freqs : List ℕ) (m : Coding) : Type 0 where
  pub coding : IsCoding m
  -- an entry for each frequency
  pub entries : length m.table ≡ length freqs
  -- a code for each frequency above 0, and for no other
  pub coded : (c : ℕ) → IsSome (code_of m c) ↔ (0 < slice_index freqs c)
  -- as many codes as there are frequencies above 0
  pub size : m.alphabet_size ≡ count_by (λ n. nat_lt 0 n) freqs
  -- a smaller code has a frequency at least as high
  pub falling : (c d j k : ℕ) → code_of m c ≡ Some j → code_of m d ≡ Some k → j < k → slice_index freqs d ≤ slice_index freqs c
  -- and where the frequencies are equal, a smaller code point
  pub ties : (c d j k : ℕ) → code_of m c ≡ Some j → code_of m d ≡ Some k → j < k → slice_index freqs c ≡ slice_index freqs d → c < d
