-- What is found in what a reader or an iterator gives.
use Rattle.std.specs.Prelude.{◌≡◌, ◌⊎◌, ℕ, ◌-◌, ◌^◌, ◌≤◌, min, List, [], ◌++◌, length, slice_get, All, Option, Some, None, IfSome, true}
use Rattle.std.specs.Iterator.Runs.{SomeRun}
use Rattle.daachorse_model.specs.declared.Match.{Match}
use Rattle.daachorse_model.specs.Units.{byte_width, char_width, size}

-- the match ends with these units, and is the first one however they go on
abbrev pub IsFirstMatch : {V : Type 0} → (ℕ → ℕ) → (List ℕ → List (Match V)) → List ℕ → Match V → Type 0
IsFirstMatch width matches units m = (m.end ≡ size width units) × ((more : List ℕ) → slice_get (matches (units ++ more)) 0 ≡ Some m)

-- in what a reader gives: `known` is all of it, if that is known
module _ {V : Type 0} (known : Option (List ℕ)) (matches : List ℕ → List (Match V)) where
  -- the first match, or none where all was read and has none
  abbrev pub IsFirstRead : Option (Match V) → Type 0
  IsFirstRead (Some m) =
      (bytes : List ℕ) × IfSome known (λ all. (rest : List ℕ) × (all ≡ bytes ++ rest)) × IsFirstMatch byte_width matches bytes m
  IsFirstRead None = (bytes : List ℕ) × IfSome known (λ all. all ≡ bytes) × (matches bytes ≡ [])

  -- how many matches there are, up to the greatest `usize`
  abbrev pub IsCountRead : ℕ → Type 0
  IsCountRead count = (bytes : List ℕ) × IfSome known (λ all. all ≡ bytes) × (count ≡ min (length (matches bytes)) (2 ^ 64 - 1))

-- in the characters that an iterator gives
module _ {V S : Type 0} (steps : S → Option ℕ → S → Type 0) (source : S) (matches : List ℕ → List (Match V)) where
  -- the first match; or none, where no match ends at a place that fits, in all characters or in so many that a place no longer does
  abbrev pub IsFirstGiven : Option (Match V) → Type 0
  IsFirstGiven (Some m) = SomeRun steps source (λ p. IsFirstMatch char_width matches p.items m)
  IsFirstGiven None =
      SomeRun steps source (λ p. All (λ m. 2 ^ 64 ≤ m.end) (matches p.items) × ((p.whole ≡ true) ⊎ (2 ^ 64 ≤ size char_width p.items)))
