-- What contracts see of an array: its elements, the units that lead from one to another, and their failure links and first outputs.
use Rattle.std.specs.Prelude.{◌≡◌, ℕ, ◌<◌, List, [], length, slice_index_or, Option, Some}
use Rattle.daachorse_core.specs.declared.outputs.Output.{Output}
use Rattle.daachorse_array.specs.Edges.{TellChildren, children_below, members}
use Rattle.daachorse_array.specs.Machines.{Machine}

pub record ArrayView : Type 0 where
  -- how many elements there are
  pub count : ℕ
  -- a bound of the units
  pub units : ℕ
  -- what a unit leads to from an element
  pub child : ℕ → ℕ → Option ℕ
  -- the group of an element's children
  pub group : ℕ → Option ℕ
  -- the group that an element is in, and its unit
  pub edge : ℕ → Option (ℕ × ℕ)
  -- the failure links
  pub fail : ℕ → ℕ
  -- the positions of the elements' first outputs, 0 for none
  pub first : ℕ → ℕ
  -- how many bytes a unit takes
  pub width : ℕ → ℕ
  -- the bytes of a unit
  pub bytes : ℕ → List ℕ

-- Units lead to elements alone, and the groups and edges tell the children.
pub record HasEdges (a : ArrayView) : Type 0 where
  pub inside : (i c j : ℕ) → a.child i c ≡ Some j → (j < a.count) × (c < a.units)
  pub tell : TellChildren a.child a.group a.edge a.count

-- the members of each group, the last first
pub record AreGroups (a : ArrayView) (groups : List (List ℕ)) : Type 0 where
  pub are : (g : ℕ) → g < a.count → slice_index_or groups g [] ≡ members a.edge g a.count
  pub each : length groups ≡ a.count

-- the children of an element, that of the greatest unit first
abbrev pub children_of : ArrayView → ℕ → List ℕ
children_of a i = children_below a.child i a.units

-- the machine that an array is with these outputs
abbrev pub machine_of : {V : Type 0} → ArrayView → List (Output V) → Machine V
machine_of a outputs = record { child = a.child; fail = a.fail; output = a.first; outputs = outputs }
