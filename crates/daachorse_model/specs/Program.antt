-- The text that the program writes.
use Rattle.std.specs.Prelude.{ℕ, ◌+◌, List, [], ◌∷◌, ◌++◌, ◌==◌, decimal, flat_map}
use Rattle.std.specs.List.{slice_split}
use Rattle.daachorse_model.specs.declared.Match.{Match}

-- the pieces, less an empty one at the end
abbrev pub without_empty_end : List (List ℕ) → List (List ℕ)
without_empty_end [] = []
without_empty_end ([] ∷ []) = []
without_empty_end (p ∷ ps) = p ∷ without_empty_end ps

-- the patterns of a file: the pieces between line feeds, less an empty one at the end
abbrev pub pattern_lines : List ℕ → List (List ℕ)
pattern_lines bytes = without_empty_end (slice_split (λ b. b == 10) bytes)

-- the texts as registrations, each with its number, where the first has the number i
abbrev pub with_numbers : ℕ → List (List ℕ) → List (List ℕ × ℕ)
with_numbers i [] = []
with_numbers i (t ∷ ts) = (t, i) ∷ with_numbers (i + 1) ts

-- a match as a line: start, end and value, with a space between, then a line feed
abbrev pub match_line : Match ℕ → List ℕ
match_line m = decimal m.start ++ 32 ∷ decimal m.end ++ 32 ∷ decimal m.value ++ 10 ∷ []

-- the matches, one a line
abbrev pub match_text : List (Match ℕ) → List ℕ
match_text = flat_map match_line
