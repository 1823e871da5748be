-- What callers see of a filter: how long its window is, and its entry for each pair of bytes.
use Rattle.std.specs.Prelude.{◌≡◌, ℕ, ◌≤◌, Bool, true, List, length, All, slice_index, Option, IfSome}
use Rattle.daachorse_model.specs.Dictionary.{Dictionary}
use Rattle.daachorse_model.specs.Filter.{passes, next_position}
use Rattle.daachorse_model.specs.Prefixes.{IsKey}
use Rattle.daachorse_prefilter.specs.Places.{IsFirstBoundary}

pub record Filter : Type 0 where
  pub window : ℕ
  pub entries : List ℕ

-- the entry of a pair of bytes
abbrev pub entry_of : Filter → ℕ → ℕ
entry_of f pair = slice_index f.entries pair

-- the filter passes at the beginning of w
abbrev pub admits : Filter → List ℕ → Bool
admits f w = passes (entry_of f) f.window w

-- the first place of h from a place on at which the filter passes, or the end
abbrev pub next_place : Filter → List ℕ → ℕ → ℕ
next_place f h from = next_position (entry_of f) f.window h from

-- windows have 2 to 9 bytes, and each pair of bytes has an entry
pub record IsFilter (f : Filter) : Type 0 where
  pub low : 2 ≤ f.window
  pub high : f.window ≤ 9
  pub sized : length f.entries ≡ 65536

-- the filter passes at the beginning of each pattern, which is at least as long as the window
abbrev pub PassesAtPatterns : Filter → List (List ℕ) → Type 0
PassesAtPatterns f patterns = All (λ p. admits f p ≡ true) patterns

-- the filter, if there is one, passes at the beginning of each key: `spell` gives the bytes of a text
abbrev pub PassesKeys : {V : Type 0} → (List ℕ → List ℕ) → Dictionary V → Option Filter → Type 0
PassesKeys spell K filter = IfSome filter (λ f. (k : List ℕ) → IsKey K k → admits f (spell k) ≡ true)

-- r is the first boundary of the text's characters from a place on at which the filter passes, or the end
abbrev pub IsNextBoundary : Filter → List ℕ → ℕ → ℕ → Type 0
IsNextBoundary f text from r = IsFirstBoundary (admits f) text from r
