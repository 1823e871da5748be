-- The lines of the patterns: each is a pattern, or a pattern with a value after a tab.
use Rattle.std.specs.Prelude.{ℕ, ◌+◌, ◌==◌, Bool, true, false, List, [], ◌∷◌, drop, take}
use Rattle.std.specs.List.{position_or_len, slice_index_or}
use Rattle.daachorse_model.specs.declared.Match.{Match}

-- how many bytes stand before the first tab
abbrev pub before_tab : List ℕ → ℕ
before_tab line = position_or_len (λ b. b == 9) line

-- the pattern of a line: what stands before the first tab, where lines have values, and else the line
abbrev pub pattern_of : Bool → List ℕ → List ℕ
pattern_of true line = take (before_tab line) line
pattern_of false line = line

-- its value: what stands after the first tab, and nothing where it has none
abbrev pub value_of : List ℕ → List ℕ
value_of line = drop (before_tab line + 1) line

-- the value of a match, by the line of its pattern
abbrev pub match_value : List (List ℕ) → Match ℕ → List ℕ
match_value rules m = value_of (slice_index_or rules m.value [])

-- the value of the first match, and nothing where there is none
abbrev pub first_value : List (List ℕ) → List (Match ℕ) → List ℕ
first_value rules [] = []
first_value rules (m ∷ ms) = match_value rules m
