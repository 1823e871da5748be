-- The edges of an array: which element belongs to which group of siblings, and the unit that leads to it.
use Rattle.std.specs.Prelude.{◌≡◌, ℕ, zero, suc, ◌<◌, Bool, false, cond, ◌==◌, List, [], ◌∷◌, length, Option, Some, None}
use Rattle.daachorse_model.specs.Paths.{Leads}

-- an edge to an element of this group
abbrev pub is_in : ℕ → Option (ℕ × ℕ) → Bool
is_in g None = false
is_in g (Some e) = e.0 == g

-- the numbers below n that pass, the last first
abbrev pub below : (ℕ → Bool) → ℕ → List ℕ
below test zero = []
below test (suc j) = cond (test j) (j ∷ below test j) (below test j)

-- the elements of group g among the first n, the last first
abbrev pub members : (ℕ → Option (ℕ × ℕ)) → ℕ → ℕ → List ℕ
members edge g n = below (λ j. is_in g (edge j)) n

-- these, put one by one before a list
abbrev pub put_before : {X : Type 0} → List X → List X → List X
put_before [] l = l
put_before (x ∷ xs) l = put_before xs (x ∷ l)

-- the child, if there is one, before others
abbrev pub child_before : Option ℕ → List ℕ → List ℕ
child_before None others = others
child_before (Some j) others = j ∷ others

-- the children of element i by the units below m, that of the greatest unit first
abbrev pub children_below : (ℕ → ℕ → Option ℕ) → ℕ → ℕ → List ℕ
children_below child i zero = []
children_below child i (suc u) = child_before (child i u) (children_below child i u)

-- Groups and edges tell the children of n elements: element i has the children of its group.
pub record TellChildren (child : ℕ → ℕ → Option ℕ) (group : ℕ → Option ℕ) (edge : ℕ → Option (ℕ × ℕ)) (n : ℕ) : Type 0 where
  pub inside : (i g : ℕ) → i < n → group i ≡ Some g → g < n
  pub alone : (i c : ℕ) → i < n → group i ≡ None → child i c ≡ None
  pub from_child : (i g c j : ℕ) → i < n → group i ≡ Some g → child i c ≡ Some j → edge j ≡ Some (g, c)
  pub to_child : (i g c j : ℕ) → i < n → group i ≡ Some g → j < n → edge j ≡ Some (g, c) → child i c ≡ Some j

-- A tree among n elements, by units below m: each element has one text, and that is not too long for its length to be a number of 32 bits below the greatest.
pub record IsTree (child : ℕ → ℕ → Option ℕ) (n m : ℕ) : Type 0 where
  pub some : 0 < n
  pub inside : (i c j : ℕ) → child i c ≡ Some j → (j < n) × (c < m)
  pub one_path : (i : ℕ) (v w : List ℕ) → Leads child v i → Leads child w i → v ≡ w
  pub shallow : (i : ℕ) (w : List ℕ) → Leads child w i → length w < 4294967295
