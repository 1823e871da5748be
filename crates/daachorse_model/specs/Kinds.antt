-- The kinds of search, and the byte that stands for each.
use Rattle.std.specs.Prelude.{ℕ, Bool, true, false, cond, ◌==◌}
use Rattle.daachorse_model.specs.declared.MatchKind.{MatchKind}
use Rattle.daachorse_model.specs.declared.MatchKind.TheVariants.{Standard, LeftmostLongest, LeftmostFirst}

abbrev pub is_standard : MatchKind → Bool
is_standard Standard = true
is_standard LeftmostLongest = false
is_standard LeftmostFirst = false

-- of the two leftmost kinds
abbrev pub is_leftmost : MatchKind → Bool
is_leftmost Standard = false
is_leftmost LeftmostLongest = true
is_leftmost LeftmostFirst = true

abbrev pub is_leftmost_first : MatchKind → Bool
is_leftmost_first Standard = false
is_leftmost_first LeftmostLongest = false
is_leftmost_first LeftmostFirst = true

-- the byte of a kind
abbrev pub byte_of_kind : MatchKind → ℕ
byte_of_kind Standard = 0
byte_of_kind LeftmostLongest = 1
byte_of_kind LeftmostFirst = 2

-- the kind of a byte: `Standard` of each byte that stands for none
abbrev pub kind_of_byte : ℕ → MatchKind
kind_of_byte b = cond (b == 1) LeftmostLongest (cond (b == 2) LeftmostFirst Standard)
