-- The first place of a text at which something passes.
use Rattle.std.specs.Prelude.{◌≡◌, ℕ, ◌<◌, ◌≤◌, Bool, true, false, List, length, drop}
use Rattle.std.specs.Str.{IsCharBoundary}

-- of the places that may be told, r is the first from a place on where what is still to come passes, or the end
pub record IsFirstOf (may_be : ℕ → Type 0) (passes : List ℕ → Bool) (text : List ℕ) (from r : ℕ) : Type 0 where
  pub inside : r ≤ length text
  pub told : may_be r
  pub found : r < length text → (from ≤ r) × (passes (drop r text) ≡ true)
  pub first : (k : ℕ) → from ≤ k → k < r → may_be k → passes (drop k text) ≡ false

-- of all places
abbrev pub IsFirstPlace : (List ℕ → Bool) → List ℕ → ℕ → ℕ → Type 0
IsFirstPlace passes text = IsFirstOf (λ k. Unit {0}) passes text

-- of the boundaries of the text's characters
abbrev pub IsFirstBoundary : (List ℕ → Bool) → List ℕ → ℕ → ℕ → Type 0
IsFirstBoundary passes text = IsFirstOf (IsCharBoundary text) passes text
