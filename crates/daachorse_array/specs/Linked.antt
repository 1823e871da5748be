-- Lists of numbers in one table: of each number it keeps the one that its list goes on with. A link is a number counted from 1, and 0 ends a list.
use Rattle.std.specs.Prelude.{◌≡◌, ℕ, zero, suc, ◌+◌, ◌<◌, ◌≤◌, List, [], ◌∷◌, length, slice_index, slice_set, Option, MatchOption}

module _ (next : List ℕ) where
  -- at most so many numbers from a link on
  abbrev pub numbers_from : ℕ → ℕ → List ℕ
  numbers_from zero link = []
  numbers_from (suc steps) zero = []
  numbers_from (suc steps) (suc q) = q ∷ numbers_from steps (slice_index next q)

  -- the list that a link begins; links fall along a list, so that as many steps are enough
  abbrev pub linked_from : ℕ → List ℕ
  linked_from link = numbers_from link link

-- links fall, and each is one of a number of the table or ends the list
pub record AreLinked (first next : List ℕ) : Type 0 where
  pub fall : (q : ℕ) → slice_index next q ≤ q
  pub inside : (key : ℕ) → key < length first → slice_index first key ≤ length next

-- Number k, whose edge this is, was put before the others of its group, and the link to these is told; of no group nothing changes.
abbrev pub IsPut : Option (ℕ × ℕ) → ℕ → List ℕ → List ℕ → ℕ → Type 0
IsPut edge k first new link = MatchOption edge ((new ≡ first) × (link ≡ 0)) (λ e. (e.0 < length first) × (new ≡ slice_set first e.0 (k + 1)) × (link ≡ slice_index first e.0))
