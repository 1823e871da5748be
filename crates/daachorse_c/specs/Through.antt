-- A stream that goes on in an automaton of its unit.
use Rattle.daachorse_c.specs.declared.streams.Streams.{Streams}
use Rattle.daachorse_c.specs.declared.streams.Streams.TheVariants.{Bytes as OfBytes, Characters as OfCharacters}
use Rattle.daachorse_c.specs.Automata.{Automaton, Bytes, Characters}
use Rattle.daachorse_c.specs.Streams.{GoesOnIn}

abbrev pub GoesThrough : Automaton → Streams → Type 0
GoesThrough (Bytes a) (OfBytes s) = GoesOnIn (Bytes a) s
GoesThrough (Bytes a) (OfCharacters s) = ⊥
GoesThrough (Characters a) (OfBytes s) = ⊥
GoesThrough (Characters a) (OfCharacters s) = GoesOnIn (Characters a) s
