-- The elements of an array that texts lead to, by their ranks: breadth first, each behind its parent.
use Rattle.std.specs.Prelude.{◌≡◌, ℕ, ◌<◌, ◌≤◌, List, length, Option, Some, slice_index}
use Rattle.daachorse_model.specs.Paths.{Leads}
use Rattle.daachorse_array.specs.Arrays.{ArrayView}
use Rattle.daachorse_array.specs.Listing.{unit_of}
use Rattle.daachorse_checker.specs.declared.ranks.Ranks.{Ranks}

-- no text leads to the dead element, and no two texts lead to one element
pub record HasOnePath (child : ℕ → ℕ → Option ℕ) : Type 0 where
  pub dead_no_child : (w : List ℕ) → ¬ Leads child w 1
  pub one_path : (i : ℕ) (v w : List ℕ) → Leads child v i → Leads child w i → v ≡ w

-- Elements by their ranks, the root at rank 0. `label` is the unit that leads to an element, and `marks` has the rank of each element, 0
-- for one that has none.
pub record HasRanks (child : ℕ → ℕ → Option ℕ) (label : ℕ → ℕ) (order parents labels marks : List ℕ) : Type 0 where
  pub some : 0 < length order
  pub first : slice_index order 0 ≡ 0
  pub one_each : length parents ≡ length order
  pub label_each : length labels ≡ length order
  pub earlier : (m : ℕ) → 0 < m → m < length order → slice_index parents m < m
  pub edge : (m : ℕ) → 0 < m → m < length order → child (slice_index order (slice_index parents m)) (label (slice_index order m)) ≡ Some
      (slice_index order m)
  pub labelled : (m : ℕ) → 0 < m → m < length order → slice_index labels m ≡ label (slice_index order m)
  pub alive : (m : ℕ) → 0 < m → m < length order → 1 < slice_index order m
  pub inside : (m : ℕ) → m < length order → slice_index order m < length marks
  pub ranked : (m : ℕ) → m < length order → slice_index marks (slice_index order m) ≡ m
  pub marked : (j : ℕ) → 0 < slice_index marks j → (slice_index marks j < length order) × (slice_index order (slice_index marks j) ≡ j)
  -- parents come in the order of the ranks
  pub rising : (l m : ℕ) → 0 < l → l < m → m < length parents → slice_index parents l ≤ slice_index parents m

-- element j has a rank, and its parent is at rank k
abbrev pub HasEntry : List ℕ → List ℕ → ℕ → ℕ → Type 0
HasEntry order parents k j = (m : ℕ) × (0 < m) × (m < length order) × (slice_index order m ≡ j) × (slice_index parents m ≡ k)

-- the children of the elements at the first k ranks have ranks
abbrev pub IsClosed : (ℕ → ℕ → Option ℕ) → List ℕ → List ℕ → ℕ → Type 0
IsClosed child order parents next = (k : ℕ) → k < next → (c j : ℕ) → child (slice_index order k) c ≡ Some j → HasEntry order parents k j

-- Of n elements those at the first ranks, whose children have ranks too; all others that have one are children of these.
pub record IsRankWalk (child : ℕ → ℕ → Option ℕ) (label : ℕ → ℕ) (n : ℕ) (order parents labels marks : List ℕ) (next : ℕ) : Type 0 where
  pub ranks : HasRanks child label order parents labels marks
  pub closed : IsClosed child order parents next
  pub recent : (m : ℕ) → 0 < m → m < length order → slice_index parents m < next
  pub marks_each : length marks ≡ n
  pub within : next ≤ length order

-- of n elements just those that texts lead to have ranks
pub record AreRanks (child : ℕ → ℕ → Option ℕ) (label : ℕ → ℕ) (n : ℕ) (order parents labels marks : List ℕ) : Type 0 where
  pub ranks : HasRanks child label order parents labels marks
  pub closed : IsClosed child order parents (length order)
  pub marks_each : length marks ≡ n

module _ {A : Type 0} (a : ArrayView) (p : Ranks A) where
  -- these are the ranks of the elements of an array
  abbrev pub AreRanksOf : Type 0
  AreRanksOf = AreRanks a.child (λ j. unit_of (a.edge j)) a.count p.order.items p.parents.items p.labels.items p.marks.items

  -- these are ranks of elements of an array, and those of the children of the first elements
  abbrev pub IsRankWalkOf : ℕ → Type 0
  IsRankWalkOf next = IsRankWalk a.child (λ j. unit_of (a.edge j)) a.count p.order.items p.parents.items p.labels.items p.marks.items next
