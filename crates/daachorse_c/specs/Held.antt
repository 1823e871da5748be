-- What a handle keeps: an automaton, whether it has rows, and a stream that goes on in it, if there is one.
use Rattle.std.specs.Prelude.{ℕ, Bool, true, false, List, Option}
use Rattle.daachorse.specs.bytewise.Automata.{Automaton as OverBytes}
use Rattle.daachorse.specs.charwise.Automata.{Automaton as OverCharacters}
use Rattle.daachorse_c.specs.declared.bytewise.Bytewise.{Bytewise}
use Rattle.daachorse_c.specs.declared.bytewise.Bytewise.TheVariants.{Plain, Rowed}
use Rattle.daachorse_c.specs.declared.charwise.Charwise.{Charwise}
use Rattle.daachorse_c.specs.declared.charwise.Charwise.TheVariants.{Plain as PlainText, Rowed as RowedText}
use Rattle.daachorse_c.specs.declared.searches.Searches.{Searches}
use Rattle.daachorse_c.specs.declared.searches.Searches.TheVariants.{Bytes as InBytes, Characters as InCharacters}
use Rattle.daachorse_c.specs.declared.searching.Search.{Search}
use Rattle.daachorse_c.specs.declared.searching.Search.TheVariants.{Bytes as OfBytes, Characters as OfCharacters}
use Rattle.daachorse_c.specs.declared.stream.Stream.{Stream}
use Rattle.daachorse_c.specs.declared.streams.Streams.{Streams}
use Rattle.daachorse_c.specs.declared.streams.Streams.TheVariants.{Bytes as StreamOfBytes, Characters as StreamOfCharacters}
use Rattle.daachorse_c.specs.Automata.{Automaton, Bytes, Characters}

-- the automaton that searches, with rows or without
abbrev pub over_bytes : Bytewise → OverBytes ℕ
over_bytes (Plain automaton) = automaton
over_bytes (Rowed rowed) = rowed.automaton

abbrev pub over_characters : Charwise → OverCharacters ℕ
over_characters (PlainText automaton) = automaton
over_characters (RowedText rowed) = rowed.automaton

abbrev pub automaton_of : Searches → Automaton
automaton_of (InBytes s) = Bytes (over_bytes s)
automaton_of (InCharacters s) = Characters (over_characters s)

-- what searches has rows of the states near the root
abbrev pub has_byte_rows : Bytewise → Bool
has_byte_rows (Plain automaton) = false
has_byte_rows (Rowed rowed) = true

abbrev pub has_character_rows : Charwise → Bool
has_character_rows (PlainText automaton) = false
has_character_rows (RowedText rowed) = true

abbrev pub has_rows : Searches → Bool
has_rows (InBytes s) = has_byte_rows s
has_rows (InCharacters s) = has_character_rows s

-- the automaton that searches a haystack, and the bytes of the haystack
abbrev pub searched : Search → Automaton
searched (OfBytes s haystack) = Bytes (over_bytes s.now)
searched (OfCharacters s text) = Characters (over_characters s.now)

abbrev pub haystack_of : Search → List ℕ
haystack_of (OfBytes s haystack) = haystack.now
haystack_of (OfCharacters s text) = text.now

-- a stream, whatever its unit
abbrev pub stream_of : Streams → Stream ℕ
stream_of (StreamOfBytes s) = s
stream_of (StreamOfCharacters s) = s

pub record Held : Type 0 where
  pub searches : Automaton
  pub rows : Bool
  pub stream : Option (Stream ℕ)
