-- The form of a kind is its byte; each byte is the form of some kind.
use Rattle.std.specs.Prelude.{ℕ, List, [], ◌∷◌}
use Rattle.std.specs.Int.{w8}
use Rattle.daachorse_model.specs.declared.MatchKind.{MatchKind}
use Rattle.daachorse_model.specs.Kinds.{byte_of_kind, kind_of_byte}
use Rattle.daachorse_serializer.specs.Forms.{Taken, over, take_number}

abbrev pub kind_form : MatchKind → List ℕ
kind_form kind = byte_of_kind kind ∷ []

abbrev pub take_kind : List ℕ → Taken MatchKind
take_kind bytes = over kind_of_byte (take_number w8 bytes)
