-- What the builder of a filter holds.
use Rattle.std.specs.Prelude.{◌≡◌, ℕ, ◌<◌, Bool, true, false, List, [], ◌∷◌, take, slice_index}
use Rattle.std.specs.List.{list_any}
use Rattle.daachorse_model.specs.Filter.{is_clear, has_pair}
use Rattle.daachorse_prefilter.specs.declared.prefilter.builder.PrefilterBuilder.{PrefilterBuilder}
use Rattle.daachorse_prefilter.specs.Building.{window_len}

abbrev pub is_nil : List (List ℕ) → Bool
is_nil [] = true
is_nil (p ∷ patterns) = false

-- bit j of a pair's entry is 0 just where some pattern has the pair at offset j of its first 9 bytes
abbrev pub AreMarked : List ℕ → List (List ℕ) → Type 0
AreMarked entries patterns =
    (pair j : ℕ) → pair < 65536 → j < 8 → is_clear (slice_index entries pair) j ≡ list_any (λ p. has_pair pair j (take 9 p)) patterns

-- the builder was made, and then just these patterns were added
pub record HasAdded {A : Type 0} (b : PrefilterBuilder A) (patterns : List (List ℕ)) : Type 0 where
  pub none : b.is_empty ≡ is_nil patterns
  pub shortest : b.window_len ≡ window_len patterns
  pub marked : AreMarked b.table patterns
