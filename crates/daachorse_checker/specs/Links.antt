-- The links of an array as links between ranks.
use Rattle.std.specs.Prelude.{◌≡◌, ◌≢◌, ℕ, ◌<◌, ◌⊎◌, Bool, true, List, ◌∷◌, Some, length, slice_index}
use Rattle.daachorse_model.specs.Paths.{Leads}
use Rattle.daachorse_array.specs.Machines.{Machine, right_fail}

-- r stands for the link f: the number of ranks for a dead one, else the rank of the element f
abbrev pub IsLinkRank : List ℕ → ℕ → ℕ → Type 0
IsLinkRank order f r = ((f ≡ 1) × (r ≡ length order)) ⊎ ((f ≢ 1) × (r < length order) × (slice_index order r ≡ f))

-- the link f is no element that a text leads to; it is not a dead one either, if there may be such
pub record IsNoRank (leftmost : Bool) (order : List ℕ) (f : ℕ) : Type 0 where
  pub lost : (q : ℕ) → q < length order → slice_index order q ≢ f
  pub alive : leftmost ≡ true → f ≢ 1

-- of each rank but the first the rank of its link
abbrev pub AreLinkRanks : (ℕ → ℕ) → List ℕ → List ℕ → Type 0
AreLinkRanks fail order fails = (m : ℕ) → 0 < m → m < length fails → IsLinkRank order (fail (slice_index order m)) (slice_index fails m)

-- the link of some rank but the first leads to no rank
abbrev pub LeadsToNoRank : Bool → (ℕ → ℕ) → List ℕ → Type 0
LeadsToNoRank leftmost fail order = (m : ℕ) × (0 < m) × (m < length order) × IsNoRank leftmost order (fail (slice_index order m))

-- each element that a text leads to has the right link
abbrev pub HasRightLinks : {V : Type 0} → (ℕ → ℕ) → Machine V → Bool → Type 0
HasRightLinks width a leftmost = (u i : ℕ) (w : List ℕ) → Leads a.child (u ∷ w) i → right_fail width a leftmost (u ∷ w) ≡ Some (a.fail i)
