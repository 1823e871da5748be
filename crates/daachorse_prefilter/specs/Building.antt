-- Which filter is made of a list of patterns, and when none is.
use Rattle.std.specs.Prelude.{◌≡◌, ◌<◌, ℕ, zero, suc, slice_index, ◌-◌, ◌*◌, ◌^◌, min, nat_le, Bool, ◌&&◌, if◌then◌else◌, List, [], ◌∷◌}
use Rattle.std.specs.Prelude.{length, map, count_by, Option, Some, None}
use Rattle.std.specs.List.{range_with_len}
use Rattle.daachorse_model.specs.Filter.{is_clear, filter_entry}
use Rattle.daachorse_prefilter.specs.Filters.{Filter}

-- the length of the shortest pattern, at most 9
abbrev pub window_len : List (List ℕ) → ℕ
window_len [] = 9
window_len (p ∷ patterns) = min (length p) (window_len patterns)

-- the entries of the first n pairs
unfoldable pub first_entries : List (List ℕ) → ℕ → List ℕ
first_entries patterns n = map (filter_entry patterns) (range_with_len 0 n)

-- the filter of the patterns
abbrev pub filter_of : List (List ℕ) → Filter
filter_of patterns = record { window = window_len patterns; entries = first_entries patterns 65536 }

-- how many of the entries let a pair be the one at offset j
abbrev pub count_clear : List ℕ → ℕ → ℕ
count_clear entries j = count_by (λ e. is_clear e j) entries

-- the counts of the first 8 offsets
abbrev pub ArePairCounts : List ℕ → List ℕ → Type 0
ArePairCounts entries counts = (j : ℕ) → j < 8 → slice_index counts j ≡ count_clear entries j

-- in how many ways k pairs may follow one another, were each chosen by itself
abbrev pub count_ways : List ℕ → ℕ → ℕ
count_ways entries zero = 1
count_ways entries (suc k) = count_ways entries k * count_clear entries k

-- at most one in sixteen of all ways to choose k pairs
abbrev pub is_sparse : List ℕ → ℕ → Bool
is_sparse entries k = nat_le (count_ways entries k) (2 ^ (16 * k - 4))

-- windows have 2 bytes at least, and few pass
abbrev pub is_worth : Filter → Bool
is_worth f = nat_le 2 f.window && is_sparse f.entries (f.window - 1)

-- the filter of the patterns, where there is a pattern and the filter is worth its run
abbrev pub built_filter : List (List ℕ) → Option Filter
built_filter [] = None
built_filter (p ∷ patterns) = let f = filter_of (p ∷ patterns) in if is_worth f then Some f else None
