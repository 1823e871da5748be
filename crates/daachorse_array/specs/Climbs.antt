-- Depths that are found from parents: which are known, and which elements wait on the path for the depth of the one above them.
use Rattle.std.specs.Prelude.{◌≡◌, ◌≢◌, ◌⊎◌, ℕ, suc, ◌<◌, List, [], ◌∷◌, length, slice_index, slice_set, Option}
use Rattle.daachorse_array.specs.Texts.{IsReached, text_of}
use Rattle.daachorse_array.specs.Trees.{IsAmong}

-- The table in which each element of a path has one more than the one above it, the first of them one more than d.
abbrev pub depths_along : ℕ → List ℕ → List ℕ → List ℕ
depths_along d [] depths = depths
depths_along d (x ∷ path) depths = depths_along (suc d) path (slice_set depths x (suc d))

module _ (child : ℕ → ℕ → Option ℕ) (n m : ℕ) where
  -- d is the depth of element i, or the greatest number of 32 bits where no text leads to it
  abbrev pub IsDepthOf : ℕ → ℕ → Type 0
  IsDepthOf i d = (IsReached child m n i × (d ≡ length (text_of child m n i))) ⊎ ((¬ IsReached child m n i) × (d ≡ 4294967295))

  -- An entry is 0, or known unless its element is on the path, whose entries are the greatest number. That of the root is 0.
  pub record AreKnown (path depths : List ℕ) : Type 0 where
    pub size : length depths ≡ n
    pub root : slice_index depths 0 ≡ 0
    pub known : (i : ℕ) → i < n → slice_index depths i ≢ 0 → ¬ IsAmong path i → IsDepthOf i (slice_index depths i)
    pub waiting : (i : ℕ) → IsAmong path i → (0 < i) × (i < n) × (slice_index depths i ≡ 4294967295)

  -- the elements of a path are reached, the first by one unit more than d, and each other one by one more than that above it
  abbrev pub IsPathBelow : ℕ → List ℕ → Type 0
  IsPathBelow d [] = Unit {0}
  IsPathBelow d (x ∷ path) = (IsReached child m n x × (length (text_of child m n x) ≡ suc d)) × IsPathBelow (suc d) path
