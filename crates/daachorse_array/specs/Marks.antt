-- Which elements of an array have a child, and the marks that say it.
use Rattle.std.specs.Prelude.{◌≡◌, ◌↔◌, ℕ, ◌<◌, Bool, false, IsTrue, List, length, slice_index_or, Option, Some}

-- some unit leads from the element to an element
abbrev pub LeadsOn : (ℕ → ℕ → Option ℕ) → ℕ → Type 0
LeadsOn child i = (c : ℕ) × (j : ℕ) × (child i c ≡ Some j)

-- of each of n elements whether it has a child
pub record AreChildMarks (child : ℕ → ℕ → Option ℕ) (n : ℕ) (marks : List Bool) : Type 0 where
  pub size : length marks ≡ n
  pub each : (i : ℕ) → i < n → IsTrue (slice_index_or marks i false) ↔ LeadsOn child i
