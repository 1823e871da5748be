-- A folded byte and a folded character as labels.
use Rattle.std.specs.Prelude.{ℕ, ◌≡◌, [], ◌∷◌}
use Rattle.std.specs.Char.{encode_utf8}
use Rattle.std.proofs.Common.{refl}
use Rattle.daachorse_model.specs.Units.{byte_width, char_width}
use Rattle.daachorse_model.specs.Folding.{folded_unit, folded}
use Rattle.daachorse_model.proofs.FoldLaws.{char_width-folded, encode-folded}

pub byte_folds : (a : ℕ) → folded_unit a ≡ folded_unit a
byte_folds a = refl

pub byte_as_wide : (u : ℕ) → byte_width (folded_unit u) ≡ byte_width u
byte_as_wide u = refl

pub byte_spelled : (a : ℕ) → folded_unit a ∷ [] ≡ folded (a ∷ [])
byte_spelled a = refl

pub char_folds : (a : ℕ) → folded_unit a ≡ folded_unit a
char_folds a = refl

pub char_as_wide : (u : ℕ) → char_width (folded_unit u) ≡ char_width u
char_as_wide u = char_width-folded u

pub char_spelled : (a : ℕ) → encode_utf8 (folded_unit a) ≡ folded (encode_utf8 a)
char_spelled a = encode-folded a
