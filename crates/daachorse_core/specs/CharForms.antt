-- A character as a label: its form is its UTF-8.
use Rattle.std.specs.Prelude.{ℕ, ◌≤◌, ◌≡◌, List, ◌++◌, length}
use Rattle.std.specs.Char.{IsScalar, encode_utf8}
use Rattle.std.specs.Ordering.{nat_cmp}
use Rattle.std.specs.Cmp.Lexicographic.{slice_cmp}
use Rattle.std.proofs.Common.{refl}
use Rattle.std.proofs.lemmas.Str.{length-encode, len_utf8_bounds, encode_same}
use Rattle.daachorse_model.specs.Units.{char_width}
use Rattle.daachorse_model.proofs.TextOrder.{chars_cmp}

pub char_exact : (a b : ℕ) → a ≡ b → a ≡ b
char_exact a b e = e

pub char_by_unit : (a b : ℕ) → nat_cmp a b ≡ nat_cmp a b
char_by_unit a b = refl

pub char_wide : (u : ℕ) → 1 ≤ char_width u
char_wide u = (len_utf8_bounds u).0

pub char_sized : (a : ℕ) → IsScalar a → length (encode_utf8 a) ≡ char_width a
char_sized a h = length-encode a

pub char_short : (a : ℕ) → IsScalar a → (1 ≤ char_width a) × (char_width a ≤ 4)
char_short a h = len_utf8_bounds a

pub char_apart : (a b : ℕ) (x y : List ℕ) → IsScalar a → IsScalar b → encode_utf8 a ++ x ≡ encode_utf8 b ++ y → a ≡ b
char_apart a b x y ha hb e = (encode_same a b x y e).0

pub char_ordered : (a b : ℕ) → IsScalar a → IsScalar b → nat_cmp a b ≡ slice_cmp nat_cmp (encode_utf8 a) (encode_utf8 b)
char_ordered a b ha hb = chars_cmp a b
