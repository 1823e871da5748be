-- The automaton of a handle, over bytes or over characters, and what callers see of it: the unit of its patterns and haystacks, the kind of its searches, whether haystacks are folded, and the patterns that it holds.
use Rattle.std.specs.Prelude.{ℕ, Bool, List}
use Rattle.daachorse_model.specs.declared.MatchKind.{MatchKind}
use Rattle.daachorse_model.specs.Dictionary.{Dictionary}
use Rattle.daachorse_model.specs.Folding.{as_read}
use Rattle.daachorse_bytewise_states.specs.StateRows.{HasNoRoom as HasNoRoomInBytes}
use Rattle.daachorse.specs.bytewise.Automata.{Automaton as Bytewise, dictionary_of as dictionary_in_bytes, states_of as states_in_bytes}
use Rattle.daachorse_charwise_states.specs.StateRows.{HasNoRoom as HasNoRoomInCharacters}
use Rattle.daachorse.specs.charwise.Automata.{Automaton as Charwise, dictionary_of as dictionary_in_characters, states_of as states_in_characters}
use Rattle.daachorse_c.specs.declared.unit.Unit.{Unit}
use Rattle.daachorse_c.specs.declared.unit.Unit.TheVariants.{Byte, Character}
use Rattle.daachorse_c.specs.Units.{IsTextIn, units_in, width_in}

pub data Automaton : Type 0 where
  Bytes : (a : Bytewise ℕ) → Automaton
  Characters : (a : Charwise ℕ) → Automaton

abbrev pub unit_of : Automaton → Unit
unit_of (Bytes a) = Byte
unit_of (Characters a) = Character

abbrev pub kind_of : Automaton → MatchKind
kind_of (Bytes a) = a.parts.kind
kind_of (Characters a) = a.parts.kind

abbrev pub folds_of : Automaton → Bool
folds_of (Bytes a) = a.folds
folds_of (Characters a) = a.folds

abbrev pub dictionary_of : Automaton → Dictionary ℕ
dictionary_of (Bytes a) = dictionary_in_bytes a
dictionary_of (Characters a) = dictionary_in_characters a

-- there is no room for rows of the states near its root
abbrev pub HasNoRoom : Automaton → Type 0
HasNoRoom (Bytes a) = HasNoRoomInBytes (states_in_bytes a)
HasNoRoom (Characters a) = HasNoRoomInCharacters (states_in_characters a)

module _ (a : Automaton) where
  -- how many bytes each of its units takes
  abbrev pub width_of : ℕ → ℕ
  width_of = width_in (unit_of a)

  -- it can read the bytes
  abbrev pub Reads : List ℕ → Type 0
  Reads bytes = IsTextIn (unit_of a) bytes

  -- the text as it reads it
  abbrev pub text_read : List ℕ → List ℕ
  text_read bytes = as_read (folds_of a) (units_in (unit_of a) bytes)
