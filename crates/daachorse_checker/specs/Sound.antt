-- An array that is sound: all that it names is there, and it is a right machine.
use Rattle.std.specs.Prelude.{ℕ, ◌<◌, ◌≤◌, Bool, length}
use Rattle.daachorse_core.specs.Outputs.{ParentsFall}
use Rattle.daachorse_array.specs.Machines.{Machine, IsCounted, IsRight}

-- of each of n elements the link is an element, and the position that of one of k outputs
pub record IsInRange (fail first : ℕ → ℕ) (n k : ℕ) : Type 0 where
  pub links : (i : ℕ) → i < n → fail i < n
  pub positions : (i : ℕ) → i < n → first i ≤ k

-- the rules of an array of n elements, to which so many texts lead, whatever an element is
pub record IsSoundArray {V : Type 0} (width : ℕ → ℕ) (a : Machine V) (leftmost : Bool) (n k : ℕ) : Type 0 where
  pub ranges : IsInRange a.fail a.output n (length a.outputs)
  pub parents_fall : ParentsFall a.outputs
  pub right : IsRight width a leftmost
  pub counted : IsCounted a k
