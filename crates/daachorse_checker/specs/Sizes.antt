-- How many bytes the texts of the ranks take.
use Rattle.std.specs.Prelude.{◌≡◌, ℕ, ◌<◌, List, length, Option, slice_index}
use Rattle.daachorse_model.specs.Paths.{Leads}
use Rattle.daachorse_model.specs.Units.{size}

-- of the first ranks the sizes of their texts
abbrev pub AreSizes : (ℕ → ℕ → Option ℕ) → (ℕ → ℕ) → List ℕ → List ℕ → Type 0
AreSizes child width order sizes = (m : ℕ) (w : List ℕ) → m < length sizes → Leads child w (slice_index order m)
    → slice_index sizes m ≡ size width w
