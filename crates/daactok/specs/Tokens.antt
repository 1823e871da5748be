-- The tokens of a text: the matches of a leftmost search, and what stands before, between and after them.
use Rattle.std.specs.Prelude.{ℕ, Bool, ◌<◌, ◌≤◌, ◌⊎◌, List, [], ◌∷◌, ◌++◌, length, Option, Some, None, IsSome, if◌then◌else◌, nat_lt, slice_range}
use Rattle.std.specs.Str.{chars, IsCharBoundary}
use Rattle.daachorse_model.specs.declared.Match.{Match}
use Rattle.daachorse_model.specs.Dictionary.{Dictionary}
use Rattle.daachorse_model.specs.Folding.{as_read}
use Rattle.daachorse_model.specs.Leftmost.{leftmost}
use Rattle.daachorse_model.specs.Units.{char_width}
use Rattle.daactok.specs.declared.Token.{Token}

-- what callers see of a token: its bytes, where it starts and ends, and the value of the word
pub record Piece (V : Type 0) : Type 0 where
  pub text : List ℕ
  pub start : ℕ
  pub end : ℕ
  pub value : Option V

abbrev pub seen : {V : Type 0} → Token V → Piece V
seen t = record { text = t.text.now; start = t.start; end = t.end; value = t.value }

-- one of the two tokens is a word
abbrev pub IsKnownOne : {V : Type 0} → Piece V → Piece V → Type 0
IsKnownOne a b = IsSome a.value ⊎ IsSome b.value

module _ {V : Type 0} (text : List ℕ) where
  -- the part of the text from s to e
  abbrev pub piece : ℕ → ℕ → Option V → Piece V
  piece s e value = record { text = slice_range text s e; start = s; end = e; value = value }

  -- the stretch from s to e: an unknown token, unless it is empty
  abbrev pub stretch : ℕ → ℕ → List (Piece V)
  stretch s e = if nat_lt s e then piece s e None ∷ [] else []

  -- the tokens from s on, where these are the matches that are left
  abbrev pub tokens_from : ℕ → List (Match V) → List (Piece V)
  tokens_from s [] = stretch s (length text)
  tokens_from s (m ∷ ms) = stretch s m.start ++ piece m.start m.end (Some m.value) ∷ tokens_from m.end ms

-- the tokens of a text: each leftmost match in it as it is read, with its value, and an unknown one in each nonempty stretch before, between and after them
abbrev pub tokens : {V : Type 0} → Bool → Dictionary V → List ℕ → List (Piece V)
tokens folds K text = tokens_from text 0 (leftmost char_width K (as_read folds (chars text)))

module _ {V : Type 0} (text : List ℕ) where
  -- a match that is not empty, at places where the text may be cut
  pub record IsPart (m : Match V) : Type 0 where
    pub starts : IsCharBoundary text m.start
    pub ends : IsCharBoundary text m.end
    pub some : m.start < m.end

  -- from s on these matches follow one another
  abbrev pub FollowOneAnother : ℕ → List (Match V) → Type 0
  FollowOneAnother s [] = IsCharBoundary text s
  FollowOneAnother s (m ∷ ms) = IsCharBoundary text s × (s ≤ m.start) × IsPart m × FollowOneAnother m.end ms
