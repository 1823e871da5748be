-- How an automaton searches, as a byte: its kind, and 128 more where ASCII letters are found without regard to case. Each byte is read as some mode.
use Rattle.std.specs.Prelude.{ℕ, ◌+◌, ◌-◌, Bool, false, cond, nat_lt, List, [], ◌∷◌}
use Rattle.std.specs.Int.{w8}
use Rattle.daachorse_model.specs.Kinds.{byte_of_kind, kind_of_byte}
use Rattle.daachorse_serializer.specs.declared.mode.SearchMode.{SearchMode}
use Rattle.daachorse_serializer.specs.Forms.{Taken, over, take_number}

-- what the option adds to the byte of a kind
abbrev pub option_byte : Bool → ℕ
option_byte folds = cond folds 128 0

abbrev pub byte_of_mode : SearchMode → ℕ
byte_of_mode m = byte_of_kind m.kind + option_byte m.folds

-- the bytes 128, 129 and 130
abbrev pub has_option : ℕ → Bool
has_option b = cond (nat_lt b 128) false (nat_lt b 131)

-- the mode of a byte: one that is no mode's is read as a byte of kinds
abbrev pub mode_of_byte : ℕ → SearchMode
mode_of_byte b = record { kind = kind_of_byte (cond (has_option b) (b - 128) b); folds = has_option b }

abbrev pub mode_form : SearchMode → List ℕ
mode_form mode = byte_of_mode mode ∷ []

abbrev pub take_mode : List ℕ → Taken SearchMode
take_mode bytes = over mode_of_byte (take_number w8 bytes)
