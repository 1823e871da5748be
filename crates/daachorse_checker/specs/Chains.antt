-- The chains of outputs of the elements at ranks.
use Rattle.std.specs.Prelude.{◌≡◌, ◌≢◌, ℕ, ◌<◌, ◌==◌, Bool, true, false, cond, List, length, slice_index, slice_index_or}
use Rattle.daachorse_core.specs.declared.outputs.Output.{Output}
use Rattle.daachorse_array.specs.Arrays.{ArrayView}
use Rattle.daachorse_array.specs.Machines.{Machine, own_from}
use Rattle.daachorse_checker.specs.Runs.{has_values}

-- an array with outputs as a machine
abbrev pub machine_of : {V : Type 0} → ArrayView → List (Output V) → Machine V
machine_of a outputs = record { child = a.child; fail = a.fail; output = a.first; outputs = outputs }

-- The chain of element i, whose text has n bytes: behind its own outputs it goes on with that of its link, and it has own outputs if it is
-- a leaf.
pub record IsChained {V : Type 0} (a : Machine V) (leaf : Bool) (n i : ℕ) : Type 0 where
  pub goes_on : (own_from a.outputs (a.output i) n (a.output i)).1 ≡ cond (a.fail i == 1) 0 (a.output (a.fail i))
  pub has_own : leaf ≡ true → has_values (own_from a.outputs (a.output i) n (a.output i)).0 ≡ true

-- of the ranks which are no parents of the first m
pub record AreLeavesOf (parents : List ℕ) (leaves : List Bool) (m : ℕ) : Type 0 where
  pub each : length leaves ≡ length parents
  pub none : (k j : ℕ) → slice_index_or leaves k false ≡ true → 0 < j → j < m → slice_index parents j ≢ k
  pub some : (k : ℕ) → k < length leaves → slice_index_or leaves k false ≡ false → (j : ℕ) × (0 < j) × (j < m) × (slice_index parents j ≡ k)

-- the chains of the elements at the first m ranks are right
pub record HaveRightChains {V : Type 0} (a : Machine V) (order sizes : List ℕ) (leaves : List Bool) (m : ℕ) : Type 0 where
  pub root : (own_from a.outputs (a.output 0) 0 (a.output 0)).1 ≡ 0
  pub others : (k : ℕ) → 0 < k → k < m → IsChained a (slice_index_or leaves k false) (slice_index sizes k) (slice_index order k)

-- the first ranks stop where their elements have an output of their own, if the machine is leftmost
abbrev pub AreStopsAt : {V : Type 0} → Machine V → Bool → List ℕ → List ℕ → List Bool → Type 0
AreStopsAt a leftmost order sizes stops =
    (m : ℕ) → m < length stops → slice_index_or stops m false ≡ cond leftmost
    (has_values (own_from a.outputs (a.output (slice_index order m)) (slice_index sizes m) (a.output (slice_index order m))).0) false
