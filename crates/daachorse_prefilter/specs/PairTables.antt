-- A table of all pairs of bytes, and the order in which it stands in memory.
use Rattle.std.specs.Prelude.{ℕ, ◌+◌, ◌*◌, ◌/◌, ◌%◌, List, map, slice_index}
use Rattle.std.specs.List.{range_with_len}

-- the pair with its bytes exchanged: a + 256 b for 256 a + b, and the other way round
abbrev pub transposed : ℕ → ℕ
transposed pair = pair % 256 * 256 + pair / 256

-- the first n entries of the list in which each pair is transposed
unfoldable pub first_transposed : List ℕ → ℕ → List ℕ
first_transposed entries n = map (λ pair. slice_index entries (transposed pair)) (range_with_len 0 n)

-- the whole of that list
abbrev pub transposed_table : List ℕ → List ℕ
transposed_table entries = first_transposed entries 65536
