-- The keys that begin a text: the longest of them, and all.
use Rattle.std.specs.Prelude.{ℕ, List, [], Option}
use Rattle.std.specs.Option.{option_map}
use Rattle.daachorse_model.specs.declared.Match.{Match}
use Rattle.daachorse_model.specs.Units.{size}
use Rattle.daachorse_model.specs.Dictionary.{Dictionary}
use Rattle.daachorse_model.specs.Leftmost.{longest_key}
use Rattle.daachorse_model.specs.Matches.{at_each_end, matches_of}

-- the match from 0 to the end of a key, with a value
abbrev pub prefix_match : {V : Type 0} → (ℕ → ℕ) → List ℕ × V → Match V
prefix_match width k = record { start = 0; end = size width k.0; value = k.1 }

module _ {V : Type 0} (width : ℕ → ℕ) (K : Dictionary V) where
  -- the longest key that begins w, with its first value
  abbrev pub longest_prefix : List ℕ → Option (Match V)
  longest_prefix w = option_map (prefix_match width) (longest_key K [] w)

  -- each key that begins w, the shortest first, with all of its values in order
  abbrev pub common_prefixes : List ℕ → List (Match V)
  common_prefixes w = at_each_end (λ t. matches_of K 0 (size width t) t) [] w
