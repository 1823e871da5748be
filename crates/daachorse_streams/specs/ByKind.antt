-- The search that an automaton's kind names, of those whose matches do not overlap.
use Rattle.std.specs.Prelude.{ℕ, List}
use Rattle.daachorse_model.specs.declared.Match.{Match}
use Rattle.daachorse_model.specs.declared.MatchKind.{MatchKind}
use Rattle.daachorse_model.specs.declared.MatchKind.TheVariants.{Standard, LeftmostLongest, LeftmostFirst}
use Rattle.daachorse_model.specs.Dictionary.{Dictionary}
use Rattle.daachorse_model.specs.Leftmost.{leftmost}
use Rattle.daachorse_model.specs.Matches.{standard}

-- matches that do not overlap: those of the kind's search
abbrev pub non_overlapping : {V : Type 0} → MatchKind → (ℕ → ℕ) → Dictionary V → List ℕ → List (Match V)
non_overlapping Standard width K h = standard width K h
non_overlapping LeftmostLongest width K h = leftmost width K h
non_overlapping LeftmostFirst width K h = leftmost width K h
