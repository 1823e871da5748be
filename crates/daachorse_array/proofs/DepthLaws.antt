-- A table of the depths of all elements tells those of the states that can be reached.
use Rattle.std.proofs.Common.{◌≡◌, ℕ, ◌⊎◌, inl, inr, List, [], length, Option}
use Rattle.std.proofs.lemmas.Option.{slice_get_within, get_or_from_slice_get}
use Rattle.daachorse_array.specs.Texts.{IsReached, text_of}
use Rattle.daachorse_core.specs.Depths.{AreDepths}
use Rattle.daachorse_array.specs.Depths.{IsDepthTable}

pub table_tells : (child : ℕ → ℕ → Option ℕ) (m n : ℕ) (depths : List ℕ) → (depths ≡ []) ⊎ IsDepthTable child m n depths → AreDepths (λ i. IsReached child m n i) (λ i. text_of child m n i) depths
table_tells child m n depths (inl none) = inl none
table_tells child m n depths (inr table) = inr (λ i at. (
  slice_get_within depths i (length (text_of child m n i)) (table.reached i at),
  get_or_from_slice_get depths i (length (text_of child m n i)) 0 (table.reached i at),
))
