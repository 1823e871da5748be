-- Which bytes lead from an element to another: those that lead to an element from the base of one.
use Rattle.std.specs.Prelude.{◌≡◌, ◌≢◌, ℕ, ◌<◌, Bool, true, false, List, length, bit_xor, slice_index_or}
use Rattle.daachorse_bytewise_states.specs.Parts.{Parts, base_of, check_of, count}

module _ {V : Type 0} (p : Parts V) where
  -- the bases of the first n elements are marked
  pub record MarksBases (n : ℕ) (marks : List Bool) : Type 0 where
    pub size : length marks ≡ count p
    pub marked : (i : ℕ) → i < n → base_of p i ≢ 0 → slice_index_or marks (base_of p i) false ≡ true

  -- the bytes are marked that lead to one of the first n elements from a marked base
  pub record MarksEdges (bases : List Bool) (n : ℕ) (marks : List Bool) : Type 0 where
    pub size : length marks ≡ 256
    pub marked : (i : ℕ) → i < n → slice_index_or bases (bit_xor i (check_of p i)) false ≡ true → slice_index_or marks (check_of p i) false ≡ true

-- the byte is marked
abbrev pub IsMarked : List Bool → ℕ → Type 0
IsMarked marks byte = slice_index_or marks byte false ≡ true
