-- The matches of a haystack, for a dictionary K: overlapping, the first of each end, and standard.
use Rattle.std.specs.Prelude.{◌≡◌, ℕ, ◌+◌, ◌==◌, List, [], ◌∷◌, ◌++◌, map, take, find, Option}
use Rattle.daachorse_model.specs.declared.Match.{Match}
use Rattle.daachorse_model.specs.Units.{size}
use Rattle.daachorse_model.specs.Dictionary.{Dictionary}

-- the matches from s to e, where the haystack has w there: one for each value of w
abbrev pub matches_of : {V : Type 0} → Dictionary V → ℕ → ℕ → List ℕ → List (Match V)
matches_of K s e w = map (λ v. record { start = s; end = e; value = v }) (K w)

-- what f gives of each beginning of the haystack, the shortest first, joined: t was read, w is still to read
abbrev pub at_each_end : {A : Type 0} → (List ℕ → List A) → List ℕ → List ℕ → List A
at_each_end f t [] = f t
at_each_end f t (u ∷ w) = f t ++ at_each_end f (t ++ u ∷ []) w

-- where the last of the matches ends; r, if there is none
abbrev pub last_end : {V : Type 0} → ℕ → List (Match V) → ℕ
last_end r [] = r
last_end r (m ∷ ms) = last_end m.end ms

-- the same match, so many bytes further on
abbrev pub shifted : {V : Type 0} → ℕ → Match V → Match V
shifted bytes m = record { start = bytes + m.start; end = bytes + m.end; value = m.value }

module _ {V : Type 0} (width : ℕ → ℕ) (K : Dictionary V) where
  -- the matches that start at s or later and end at e, where the haystack has w from s to e: the longest key first
  abbrev pub ending_at : ℕ → ℕ → List ℕ → List (Match V)
  ending_at s e [] = matches_of K s e []
  ending_at s e (u ∷ w) = matches_of K s e (u ∷ w) ++ ending_at (s + width u) e w

  -- the matches at the end of t, the units read so far
  abbrev pub matches_after : List ℕ → List (Match V)
  matches_after t = ending_at 0 (size width t) t

  -- every match: ends rise, and at one end the longest key comes first
  abbrev pub overlapping : List ℕ → List (Match V)
  overlapping h = at_each_end matches_after [] h

  -- of every match the first at each end
  abbrev pub no_suffix : List ℕ → List (Match V)
  no_suffix h = at_each_end (λ t. take 1 (matches_after t)) [] h

  -- with an empty key: one empty match at each boundary
  abbrev pub empty_matches : List ℕ → List (Match V)
  empty_matches h = at_each_end (λ t. take 1 (matches_of K (size width t) (size width t) [])) [] h

  -- without one: t was read since the resume point r, w is still to read
  abbrev pub standard_from : ℕ → List ℕ → List ℕ → List (Match V)
  standard_from r t [] = []
  standard_from r t (u ∷ w) =
      let e = r + size width (t ++ u ∷ []) in
      elim (ending_at r e (t ++ u ∷ [])) [
        | [] ↦ standard_from r (t ++ u ∷ []) w
        | m ∷ _ ↦ m ∷ standard_from e [] w
      ]

  -- matches that do not overlap: from the end of the one before the least end, and there the longest key
  abbrev pub standard : List ℕ → List (Match V)
  standard h = elim (K []) [ [] ↦ standard_from 0 [] h | _ ∷ _ ↦ empty_matches h ]

  -- of them the match that ends where t does: what a stepper that consumed t has
  abbrev pub standard_after : List ℕ → Option (Match V)
  standard_after t = find (λ m. m.end == size width t) (standard t)

  -- the place from which the standard search goes on, after t: where its last match ends, or the beginning
  abbrev pub resume_place : List ℕ → ℕ
  resume_place t = last_end 0 (standard t)

  -- s are the units of t that come after that place
  abbrev pub IsSinceMatch : List ℕ → List ℕ → Type 0
  IsSinceMatch t s = (before : List ℕ) × (t ≡ before ++ s) × (size width before ≡ resume_place t)
