-- A haystack with each of its matches replaced by what a call appends to an output.
use Rattle.std.specs.Prelude.{◌≡◌, ◌⊎◌, ℕ, List, [], ◌∷◌, drop, slice_range, ⊤, Option, Result, Ok, Err}
use Rattle.std.specs.Borrow.{MutBor}
use Rattle.std.specs.Io.KnownBytes.{Appends}
use Rattle.daachorse_model.specs.declared.Match.{Match}
use Rattle.daachorse_streams.specs.Replaced.{AppendsBeginning, AppendsPart, with_pieces}

module _ {V P O E F : Type 0} (bytes : P → List ℕ) (step : F → Match V → P → MutBor O → Result (Unit {0}) E → MutBor O → F → Type 0) where
  -- a call of f for the match, and for these bytes that it is, may return r, and takes the output from `old` to `new` and f to g
  abbrev pub MayWriteFor : F → Match V → List ℕ → O → Result (Unit {0}) E → O → F → Type 0
  MayWriteFor f m matched old r new g =
      (part : P) × (shown : MutBor O) × (left : MutBor O) × (bytes part ≡ matched) × (shown.now ≡ old) × (left.now ≡ new)
      × step f m part shown r left g

module _ {V P O E F : Type 0} (bytes : P → List ℕ) (taken : O → Option (List ℕ)) (haystack : List ℕ)
    (step : F → Match V → P → MutBor O → Result (Unit {0}) E → MutBor O → F → Type 0) where
  -- the same for the part of the haystack that the match is
  abbrev pub MayWrite : F → Match V → O → Result (Unit {0}) E → O → F → Type 0
  MayWrite f m old r new g = MayWriteFor bytes step f m (slice_range haystack m.start m.end) old r new g

  -- from s on, with these matches left: the bytes up to a match are appended, and then the call for it is made; the bytes after the last
  -- come last
  abbrev pub IsReplacedFrom : ℕ → List (Match V) → F → O → O → Type 0
  IsReplacedFrom s [] f old new = Appends (taken old) (taken new) (drop s haystack)
  IsReplacedFrom s (m ∷ ms) f old new =
      (at : O) × (next : O) × (g : F) × Appends (taken old) (taken at) (slice_range haystack s m.start) × MayWrite f m at (Ok tt) next g
      × IsReplacedFrom m.end ms g next new

  -- from f on, the haystack went to the output with what a call appended in place of each of these matches
  abbrev pub IsReplaced : List (Match V) → F → O → O → Type 0
  IsReplaced ms f old new = IsReplacedFrom 0 ms f old new

  -- the same up to a refusal: the output took a beginning of the bytes up to a match or behind the last, or the call for a match returned
  -- an error
  abbrev pub IsReplacedSoFarFrom : ℕ → List (Match V) → F → O → O → Type 0
  IsReplacedSoFarFrom s [] f old new = AppendsBeginning (taken old) (taken new) (drop s haystack)
  IsReplacedSoFarFrom s (m ∷ ms) f old new =
      AppendsBeginning (taken old) (taken new) (slice_range haystack s m.start)
      ⊎ ((at : O) × Appends (taken old) (taken at) (slice_range haystack s m.start)
      × (((e : E) × (g : F) × MayWrite f m at (Err e) new g)
      ⊎ ((next : O) × (g : F) × MayWrite f m at (Ok tt) next g × IsReplacedSoFarFrom m.end ms g next new)))

  abbrev pub IsReplacedSoFar : List (Match V) → F → O → O → Type 0
  IsReplacedSoFar ms f old new = IsReplacedSoFarFrom 0 ms f old new

  -- The same where it stopped with this error: the output refused some of the bytes up to a match or after the last, or the call for a
  -- match returned the error.
  abbrev pub IsStoppedFrom : E → ℕ → List (Match V) → F → O → O → Type 0
  IsStoppedFrom e s [] f old new = AppendsPart (taken old) (taken new) (drop s haystack)
  IsStoppedFrom e s (m ∷ ms) f old new =
      AppendsPart (taken old) (taken new) (slice_range haystack s m.start)
      ⊎ ((at : O) × Appends (taken old) (taken at) (slice_range haystack s m.start)
      × (((g : F) × MayWrite f m at (Err e) new g)
      ⊎ ((next : O) × (g : F) × MayWrite f m at (Ok tt) next g × IsStoppedFrom e m.end ms g next new)))

  abbrev pub IsStopped : E → List (Match V) → F → O → O → Type 0
  IsStopped e ms f old new = IsStoppedFrom e 0 ms f old new

  -- no call changes what was there, unless it returns an error
  abbrev pub OnlyAppends : Type 0
  OnlyAppends =
      (f : F) (m : Match V) (old new : O) (g : F) → MayWrite f m old (Ok tt) new g
      → (piece : List ℕ) × Appends (taken old) (taken new) piece

  -- a call of f for the match may append this piece, and takes f to g
  abbrev pub MayAppend : F → Match V → List ℕ → F → Type 0
  MayAppend f m piece g = (old : O) × (new : O) × MayWrite f m old (Ok tt) new g × Appends (taken old) (taken new) piece

  -- calls in turn, from f on, one for each match, may append these pieces
  abbrev pub MayAppendEach : F → List (Match V) → List (List ℕ) → Type 0
  MayAppendEach f [] [] = ⊤
  MayAppendEach f [] (piece ∷ pieces) = ⊥
  MayAppendEach f (m ∷ ms) [] = ⊥
  MayAppendEach f (m ∷ ms) (piece ∷ pieces) = (g : F) × MayAppend f m piece g × MayAppendEach g ms pieces

  -- Q of the haystack with a piece in place of each of these matches, which the call for it appended
  abbrev pub OfAppended : List (Match V) → F → (List ℕ → Type 0) → Type 0
  OfAppended ms f Q = (pieces : List (List ℕ)) × MayAppendEach f ms pieces × Q (with_pieces haystack ms pieces)
