-- What is sought in lines, and which matches a search finds.
use Rattle.std.specs.Prelude.{ℕ, Bool, List}
use Rattle.daachorse_model.specs.declared.Match.{Match}
use Rattle.daachorse_model.specs.declared.MatchKind.{MatchKind}
use Rattle.daachorse_model.specs.declared.MatchKind.TheVariants.{Standard, LeftmostLongest, LeftmostFirst}
use Rattle.daachorse_model.specs.Dictionary.{Dictionary}
use Rattle.daachorse_model.specs.Folding.{as_read}
use Rattle.daachorse_model.specs.Leftmost.{leftmost}
use Rattle.daachorse_model.specs.Matches.{overlapping}
use Rattle.daachorse_model.specs.Units.{byte_width}
use Rattle.daachorse.specs.bytewise.Automata.{Automaton, dictionary_of, kind_of}

-- what is sought: the patterns of a dictionary, in lines as they are read, by searches of a kind
pub record Sought : Type 0 where
  pub dictionary : Dictionary ℕ
  pub folds : Bool
  pub kind : MatchKind

-- what an automaton seeks
abbrev pub sought_of : Automaton ℕ → Sought
sought_of a = record { dictionary = dictionary_of a; folds = a.folds; kind = kind_of a }

-- the matches of a kind in a text: all of them, or the leftmost ones
abbrev pub matches_by : MatchKind → Dictionary ℕ → List ℕ → List (Match ℕ)
matches_by Standard K text = overlapping byte_width K text
matches_by LeftmostLongest K text = leftmost byte_width K text
matches_by LeftmostFirst K text = leftmost byte_width K text

-- the matches in a line
abbrev pub matches_in : Sought → List ℕ → List (Match ℕ)
matches_in s line = matches_by s.kind s.dictionary (as_read s.folds line)
