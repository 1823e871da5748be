-- Groups whose parents, labels and ids all rise: a form that one pass over them can tell.
use Rattle.std.specs.Prelude.{ℕ, ◌<◌, ◌≤◌, List, length}
use Rattle.daachorse_placement.specs.declared.build_helper.SiblingGroup.{SiblingGroup}
use Rattle.daachorse_placement.specs.Placement.{label_of, child_id, children_of, group_parent}

-- the labels of the first n children rise to one before `label`, and their ids from `low` on to one before `high`
pub record AreRising (cs : List (ℕ × ℕ)) (n label low high : ℕ) : Type 0 where
  pub labels : (j : ℕ) → j < n → label_of cs j < label
  pub label_order : (i j : ℕ) → i < j → j < n → label_of cs i < label_of cs j
  pub from : (j : ℕ) → j < n → low ≤ child_id cs j
  pub to : (j : ℕ) → j < n → child_id cs j < high
  pub order : (i j : ℕ) → i < j → j < n → child_id cs i < child_id cs j
  pub grows : low ≤ high

-- the parents of the first n groups rise to one before `parent`, and all ids to one before `high`
pub record RiseTo {A : Type 0} (gs : List (SiblingGroup A)) (n block parent high : ℕ) : Type 0 where
  pub some : (k : ℕ) → k < n → 0 < length (children_of gs k)
  pub parents : (k : ℕ) → k < n → group_parent gs k < parent
  pub parent_order : (k l : ℕ) → k < l → l < n → group_parent gs k < group_parent gs l
  pub each : (k : ℕ) → k < n → AreRising (children_of gs k) (length (children_of gs k)) block 2 high
  pub order : (k l i j : ℕ) → k < l → l < n → i < length (children_of gs k) → j < length (children_of gs l) → child_id (children_of gs k) i < child_id (children_of gs l) j
