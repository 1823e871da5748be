-- Arrays whose texts are folded, and dictionaries whose keys are.
use Rattle.std.specs.Prelude.{◌≡◌, ℕ, ◌<◌, List, length, Option, Some, slice_index}
use Rattle.daachorse_model.specs.Dictionary.{Dictionary}
use Rattle.daachorse_model.specs.Folding.{folded, folded_unit}
use Rattle.daachorse_model.specs.Paths.{Leads}
use Rattle.daachorse_model.specs.Prefixes.{IsKey}

-- no element that a text leads to has a child by a unit that would be folded, one of A to Z
abbrev pub HasFoldedUnits : (ℕ → ℕ → Option ℕ) → Type 0
HasFoldedUnits child = (w : List ℕ) (i c j : ℕ) → Leads child w i → child i c ≡ Some j → folded_unit c ≡ c

-- no key has a unit that would be folded
abbrev pub HasFoldedKeys : {V : Type 0} → Dictionary V → Type 0
HasFoldedKeys K = (k : List ℕ) → IsKey K k → folded k ≡ k

-- no label behind the first would be folded
abbrev pub AreFolded : List ℕ → Type 0
AreFolded labels = (m : ℕ) → 0 < m → m < length labels → folded_unit (slice_index labels m) ≡ slice_index labels m
