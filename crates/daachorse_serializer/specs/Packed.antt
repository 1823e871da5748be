-- The two parts of a packed word, `a * 256 + b`.
use Rattle.std.specs.Prelude.{ℕ, ◌/◌, ◌%◌, List, codes}
use Rattle.std.specs.Int.{w32}
use Rattle.daachorse_serializer.specs.declared.intpack.U24nU8.{U24nU8}
use Rattle.daachorse_serializer.specs.Forms.{Taken, over, number_form, take_number}

abbrev pub word_of : U24nU8 → ℕ
word_of p = p.word

abbrev pub packed_of : ℕ → U24nU8
packed_of n = record { word = n }

-- the part of 24 bits
abbrev pub upper : U24nU8 → ℕ
upper p = word_of p / 256

-- the part of 8 bits
abbrev pub lower : U24nU8 → ℕ
lower p = word_of p % 256

-- its form is that of the word
abbrev pub packed_form : U24nU8 → List ℕ
packed_form p = number_form w32 (word_of p)

abbrev pub take_packed : List ℕ → Taken U24nU8
take_packed bytes = over packed_of (take_number w32 bytes)

-- the refusal of a number past 24 bits
abbrev pub too_large_text : List ℕ
too_large_text = codes "value must be smaller than 2^24"
