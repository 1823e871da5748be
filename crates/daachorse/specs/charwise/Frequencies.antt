-- How often each character occurs in texts, by code point. A count that reached the greatest number of 32 bits stays.
use Rattle.std.specs.Prelude.{◌≡◌, ℕ, ◌+◌, ◌≤◌, min, List, [], ◌∷◌, ◌++◌, length, nat_eq, count_by, slice_index}

-- how often u is in the text, if that is a number of 32 bits
abbrev pub frequency : ℕ → ℕ
frequency n = min n 4294967295

-- the texts, joined
abbrev pub concatenation : List (List ℕ) → List ℕ
concatenation [] = []
concatenation (w ∷ ws) = w ++ concatenation ws

-- the counts after those of the characters of w were added: none is past the last code point
pub record HasCounted (old : List ℕ) (w : List ℕ) (new : List ℕ) : Type 0 where
  pub few : length new ≤ 1114112
  pub counts : (u : ℕ) → slice_index new u ≡ frequency (slice_index old u + count_by (nat_eq u) w)

-- the counts of the characters of all texts
abbrev pub AreFrequencies : List (List ℕ) → List ℕ → Type 0
AreFrequencies texts freqs = HasCounted [] (concatenation texts) freqs
