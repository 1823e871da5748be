-- What patterns and haystacks are made of: bytes, or the characters of UTF-8.
use Rattle.std.specs.Prelude.{◌≡◌, ◌≢◌, ◌<◌, ◌≤◌, ℕ, ⊤, cond, ◌==◌, List, [], ◌∷◌, None, encode_utf8_all, length, take}
use Rattle.std.specs.Str.{IsUtf8, chars}
use Rattle.std.specs.Str.Lossy.{utf8_error_len}
use Rattle.daachorse_model.specs.Units.{byte_width, char_width}
use Rattle.daachorse_c.specs.declared.stream_unit.Pushed.{Pushed}
use Rattle.daachorse_c.specs.declared.stream_unit.Pushed.TheVariants.{Open, Whole, Wrong}
use Rattle.daachorse_c.specs.declared.unit.Unit.{Unit}
use Rattle.daachorse_c.specs.declared.unit.Unit.TheVariants.{Byte, Character}

-- the unit with this number in C
abbrev pub unit_numbered : ℕ → Unit
unit_numbered number = cond (number == 1) Character Byte

-- how many bytes a unit takes
abbrev pub width_in : Unit → ℕ → ℕ
width_in Byte = byte_width
width_in Character = char_width

-- bytes are text that is made of such units
abbrev pub IsTextIn : Unit → List ℕ → Type 0
IsTextIn Byte bytes = ⊤
IsTextIn Character bytes = IsUtf8 bytes

-- the units of text
abbrev pub units_in : Unit → List ℕ → List ℕ
units_in Byte bytes = bytes
units_in Character bytes = chars bytes

-- the bytes that spell these units
abbrev pub spelled_in : Unit → List ℕ → List ℕ
spelled_in Byte w = w
spelled_in Character w = encode_utf8_all w

-- the bytes of a partial character: too few for it, and more may come
pub record IsOpenCharacter (bytes : List ℕ) : Type 0 where
  pub short : length bytes < 4
  pub none : (n : ℕ) → 0 < n → n ≤ length bytes → ¬ IsUtf8 (take n bytes)
  pub more : utf8_error_len bytes ≡ None

-- the bytes of a partial unit, if one has
abbrev pub IsOpenIn : Unit → List ℕ → Type 0
IsOpenIn Byte bytes = bytes ≡ []
IsOpenIn Character bytes = IsOpenCharacter bytes

-- the bytes are no unit, and none begins with them
abbrev pub IsWrongIn : Unit → List ℕ → Type 0
IsWrongIn Byte bytes = ⊥
IsWrongIn Character bytes = ¬ IsUtf8 bytes × (utf8_error_len bytes ≢ None)

-- what comes of these bytes is a unit, or is kept as what is partial, or they are wrong
abbrev pub IsPushed : {U : Type 0} → Unit → (U → ℕ) → List ℕ → Pushed U → Type 0
IsPushed which unit bytes (Whole u) = bytes ≡ spelled_in which (unit u ∷ [])
IsPushed which unit bytes (Open partial) = (partial ≡ bytes) × IsOpenIn which bytes
IsPushed which unit bytes Wrong = IsWrongIn which bytes
