-- The leftmost matches of a haystack: from the least start the longest key.
use Rattle.std.specs.Prelude.{ℕ, zero, suc, ◌+◌, Bool, true, false, cond, List, [], ◌∷◌, ◌++◌, length, Option, Some, None, option_map, slice_get}
use Rattle.std.specs.Option.{option_or}
use Rattle.daachorse_model.specs.declared.Match.{Match}
use Rattle.daachorse_model.specs.Units.{size}
use Rattle.daachorse_model.specs.Dictionary.{Dictionary}

-- w with its first value, where it is a key
abbrev pub key_with_value : {V : Type 0} → Dictionary V → List ℕ → Option (List ℕ × V)
key_with_value K w = option_map (λ v. (w, v)) (slice_get (K w) 0)

-- the longest key that is t or t followed by the next units of w, with its first value
abbrev pub longest_key : {V : Type 0} → Dictionary V → List ℕ → List ℕ → Option (List ℕ × V)
longest_key K t [] = key_with_value K t
longest_key K t (u ∷ w) = option_or (longest_key K (t ++ u ∷ []) w) (key_with_value K t)

-- what is given at s, where `best` is the longest key there: an empty one not right after a nonempty match
abbrev pub match_at : {V : Type 0} → (ℕ → ℕ) → ℕ → Bool → Option (List ℕ × V) → List (Match V)
match_at width s after None = []
match_at width s after (Some ([], v)) = cond after [] (record { start = s; end = s; value = v } ∷ [])
match_at width s after (Some (c ∷ p, v)) = record { start = s; end = s + size width (c ∷ p); value = v } ∷ []

-- how many units of the match follow its first
abbrev pub units_to_skip : {V : Type 0} → Option (List ℕ × V) → ℕ
units_to_skip None = 0
units_to_skip (Some ([], v)) = 0
units_to_skip (Some (c ∷ p, v)) = length p

-- whether a nonempty match comes right before the next boundary that is looked at
abbrev pub is_after : {V : Type 0} → Bool → Option (List ℕ × V) → Bool
is_after after None = after
is_after after (Some ([], v)) = false
is_after after (Some (c ∷ p, v)) = true

module _ {V : Type 0} (width : ℕ → ℕ) (K : Dictionary V) where
  -- the matches from s on, where w is still to read, and the next `skip` units of it belong to the match given last
  abbrev pub leftmost_from : ℕ → ℕ → Bool → List ℕ → List (Match V)
  leftmost_from s (suc skip) after [] = []
  leftmost_from s (suc skip) after (u ∷ w) = leftmost_from (s + width u) skip after w
  leftmost_from s zero after [] = match_at width s after (longest_key K [] [])
  leftmost_from s zero after (u ∷ w) =
      let best = longest_key K [] (u ∷ w) in
      match_at width s after best ++ leftmost_from (s + width u) (units_to_skip best) (is_after after best) w

  -- matches that do not overlap: from the end of the one before the least start, and there the longest key
  abbrev pub leftmost : List ℕ → List (Match V)
  leftmost h = leftmost_from 0 zero false h
