-- Which bytes give an automaton over bytes, whoever wrote them.
use Rattle.std.specs.Prelude.{ℕ, List}
use Rattle.daachorse_checker.specs.Reads.{GivesAutomaton as Gives, GivesNoAutomaton as GivesNone}
use Rattle.daachorse_serializer.specs.Forms.{Taken}
use Rattle.daachorse_bytewise_states.specs.PartForms.{take_parts}
use Rattle.daachorse_bytewise_states.specs.Valid.{IsValid}
use Rattle.daachorse.specs.bytewise.Automata.{Automaton, MayFold, MayHaveFilter}

module _ {V : Type 0} (take_value : List ℕ → Taken V) (bytes : List ℕ) where
  -- they begin with the parts, the option and the filter of this automaton, and these bytes are left
  abbrev pub GivesAutomaton : Automaton V → List ℕ → Type 0
  GivesAutomaton = Gives IsValid MayFold MayHaveFilter (take_parts take_value bytes)

  -- they begin with no parts, or with such as are no automaton's, or with a pattern that is not folded where haystacks are, or with a filter that does not pass at some pattern
  abbrev pub GivesNoAutomaton : Type 0
  GivesNoAutomaton = GivesNone IsValid MayFold MayHaveFilter (take_parts take_value bytes)
