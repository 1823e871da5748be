-- Which bytes of a text lie in a match.
use Rattle.std.specs.Prelude.{◌≡◌, ℕ, ◌≤◌, ◌<◌, Bool, false, ◌&&◌, List, length, nat_le, nat_lt, slice_index_or}
use Rattle.std.specs.List.{list_any}
use Rattle.daachorse_model.specs.declared.Match.{Match}

-- the match starts and ends within n bytes
pub record FitsIn {V : Type 0} (n : ℕ) (m : Match V) : Type 0 where
  pub ordered : m.start ≤ m.end
  pub within : m.end ≤ n

-- the place i lies from s on and before e
abbrev pub is_within : ℕ → ℕ → ℕ → Bool
is_within s e i = nat_le s i && nat_lt i e

-- the byte at place i lies in one of the matches
abbrev pub is_covered : {V : Type 0} → List (Match V) → ℕ → Bool
is_covered ms i = list_any (λ m. is_within m.start m.end i) ms

-- a mark for each of n bytes: whether it lies in one of the matches
pub record AreMarks {V : Type 0} (ms : List (Match V)) (n : ℕ) (marks : List Bool) : Type 0 where
  pub long : length marks ≡ n
  pub marked : (i : ℕ) → i < n → slice_index_or marks i false ≡ is_covered ms i
