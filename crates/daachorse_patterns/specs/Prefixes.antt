-- How many texts go on to a key: each has a state with children, and these a base of their own.
use Rattle.std.specs.Prelude.{◌≢◌, ℕ, ◌<◌, List, [], ◌++◌, length}
use Rattle.std.specs.List.{AllByRecursion, IsDistinct}
use Rattle.daachorse_model.specs.Units.{same_text}
use Rattle.daachorse_model.specs.Dictionary.{Dictionary}
use Rattle.daachorse_model.specs.Prefixes.{IsKey}

-- w begins a longer key
abbrev pub IsProperPrefix : {V : Type 0} → Dictionary V → List ℕ → Type 0
IsProperPrefix K w = (x : List ℕ) × (x ≢ []) × IsKey K (w ++ x)

-- more than n texts begin longer keys
pub record HasMoreProperPrefixes {V : Type 0} (K : Dictionary V) (n : ℕ) : Type 0 where
  pub texts : List (List ℕ)
  pub distinct : IsDistinct same_text texts
  pub prefixes : AllByRecursion (IsProperPrefix K) texts
  pub more : n < length texts
