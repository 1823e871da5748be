-- Units and places. A text is the list of its units: bytes, or the codes of characters.
-- `width` says how many bytes a unit takes, so that each place is a byte offset.
use Rattle.std.specs.Prelude.{ℕ, ◌+◌, Bool, List, [], ◌∷◌, nat_eq}
use Rattle.std.specs.Char.{len_utf8}
use lib.Pointwise.{pointwise}

-- a byte takes one byte
abbrev pub byte_width : ℕ → ℕ
byte_width u = 1

-- a character takes the bytes of its UTF-8
abbrev pub char_width : ℕ → ℕ
char_width u = len_utf8 u

-- how many bytes a text takes: the place where it ends, if it begins at 0
abbrev pub size : (ℕ → ℕ) → List ℕ → ℕ
size width [] = 0
size width (u ∷ w) = width u + size width w

-- the two texts have the same units
abbrev pub same_text : List ℕ → List ℕ → Bool
same_text = pointwise nat_eq
