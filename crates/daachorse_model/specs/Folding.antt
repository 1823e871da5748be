-- Texts without regard to the case of ASCII letters: A to Z are read as a to z, and every other unit as it is.
use Rattle.std.specs.Prelude.{ℕ, Bool, true, false, List, map}
use Rattle.std.specs.Char.{to_ascii_lowercase}

-- the unit, in lower case where it is an ASCII letter
unfoldable pub folded_unit : ℕ → ℕ
folded_unit u = to_ascii_lowercase u

-- the text, with each of its units folded
abbrev pub folded : List ℕ → List ℕ
folded w = map folded_unit w

-- the text as it is read: folded where `folds` says so
abbrev pub as_read : Bool → List ℕ → List ℕ
as_read true w = folded w
as_read false w = w

-- texts as they are read
abbrev pub all_as_read : Bool → List (List ℕ) → List (List ℕ)
all_as_read true texts = map folded texts
all_as_read false texts = texts

module _ {V : Type 0} where
  -- the registrations, with each text folded
  abbrev pub folded_texts : List (List ℕ × V) → List (List ℕ × V)
  folded_texts rs = map (λ r. (folded r.0, r.1)) rs

  -- the registrations as a build reads them: folded where `folds` says so
  abbrev pub texts_as_read : Bool → List (List ℕ × V) → List (List ℕ × V)
  texts_as_read true rs = folded_texts rs
  texts_as_read false rs = rs
