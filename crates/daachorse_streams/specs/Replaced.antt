-- A haystack with each of its matches replaced, as bytes.
use Rattle.std.specs.Prelude.{◌≡◌, ◌≢◌, ℕ, ◌≤◌, List, [], ◌∷◌, ◌++◌, drop, length, map, slice_range, ⊤, Option}
use Rattle.std.specs.Io.KnownBytes.{Appends}
use Rattle.daachorse_model.specs.declared.Match.{Match}

module _ {V : Type 0} (with : Match V → List ℕ) (bytes : List ℕ) where
  -- what comes of the bytes from s on, where these matches are left
  abbrev pub with_replacements_from : ℕ → List (Match V) → List ℕ
  with_replacements_from s [] = drop s bytes
  with_replacements_from s (m ∷ ms) = slice_range bytes s m.start ++ (with m ++ with_replacements_from m.end ms)

  -- the bytes with each match replaced by what `with` says of it
  abbrev pub with_replacements : List (Match V) → List ℕ
  with_replacements ms = with_replacements_from 0 ms

module _ {V : Type 0} (bytes : List ℕ) where
  -- what comes of the bytes from s on, where these matches are left and these pieces stand in their place; it ends before a match that has
  -- no piece
  abbrev pub with_pieces_from : ℕ → List (Match V) → List (List ℕ) → List ℕ
  with_pieces_from s [] ps = drop s bytes
  with_pieces_from s (m ∷ ms) [] = slice_range bytes s m.start
  with_pieces_from s (m ∷ ms) (p ∷ ps) = slice_range bytes s m.start ++ (p ++ with_pieces_from m.end ms ps)

  -- the bytes with these pieces in place of the matches, up to a match that has none
  abbrev pub with_pieces : List (Match V) → List (List ℕ) → List ℕ
  with_pieces ms ps = with_pieces_from 0 ms ps

module _ {V P : Type 0} (bytes : P → List ℕ) (haystack : List ℕ) (gives : Match V → P → P → Type 0) where
  -- the replacement gave this for the match and the part of the haystack that it is
  abbrev pub IsGiven : Match V → P → Type 0
  IsGiven m given = (part : P) × (bytes part ≡ slice_range haystack m.start m.end) × gives m part given

  -- the replacement gave these for the first of the matches
  abbrev pub AreGiven : List (Match V) → List P → Type 0
  AreGiven ms [] = ⊤
  AreGiven [] (p ∷ ps) = ⊥
  AreGiven (m ∷ ms) (p ∷ ps) = IsGiven m p × AreGiven ms ps

  -- Q of the haystack with each of these matches replaced by what the replacement gave for it
  abbrev pub OfReplaced : List (Match V) → (List ℕ → Type 0) → Type 0
  OfReplaced matches Q =
      (given : List P) × AreGiven matches given × (length given ≡ length matches) × Q (with_pieces haystack matches (map bytes given))

  -- Q of the same up to a match for which the replacement gave nothing yet
  abbrev pub OfReplacedSoFar : List (Match V) → (List ℕ → Type 0) → Type 0
  OfReplacedSoFar matches Q = (given : List P) × AreGiven matches given × Q (with_pieces haystack matches (map bytes given))

-- known bytes grow by a beginning of the text
abbrev pub AppendsBeginning : Option (List ℕ) → Option (List ℕ) → List ℕ → Type 0
AppendsBeginning old new text = (part : List ℕ) × (rest : List ℕ) × (text ≡ part ++ rest) × Appends old new part

-- known bytes grow by a beginning of the text, and some of it is left
abbrev pub AppendsPart : Option (List ℕ) → Option (List ℕ) → List ℕ → Type 0
AppendsPart old new text = (part : List ℕ) × (rest : List ℕ) × (text ≡ part ++ rest) × (rest ≢ []) × Appends old new part

module _ {V : Type 0} (may_cut : ℕ → Type 0) where
  -- from s on these matches follow one another, at places where the haystack may be cut
  abbrev pub AreParts : ℕ → List (Match V) → Type 0
  AreParts s [] = may_cut s
  AreParts s (m ∷ ms) = may_cut s × (s ≤ m.start) × may_cut m.start × (m.start ≤ m.end) × AreParts m.end ms
