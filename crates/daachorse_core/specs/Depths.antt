-- The depths of states, kept in a table: of each state how many units its text has.
use Rattle.std.specs.Prelude.{◌≡◌, ℕ, ◌<◌, ◌⊎◌, List, [], length, slice_index}

-- no depths are kept, or those of all states that can be reached
abbrev pub AreDepths : (ℕ → Type 0) → (ℕ → List ℕ) → List ℕ → Type 0
AreDepths reached text depths = (depths ≡ []) ⊎ ((state : ℕ) → reached state → (state < length depths) × (slice_index depths state ≡ length (text state)))
