-- Pattern matching machines, the dictionary that one holds, and which are right.
use Rattle.std.specs.Prelude.{◌≡◌, ◌≢◌, ℕ, zero, suc, ◌<◌, ◌≤◌, ◌==◌, cond, Bool, true, false, List, [], ◌∷◌, length, slice_get, Option, Some, None}
use Rattle.daachorse_core.specs.declared.outputs.Output.{Output}
use Rattle.daachorse_core.specs.Outputs.{value_of, length_of, parent_of, ParentsFall}
use Rattle.daachorse_model.specs.Units.{size}
use Rattle.daachorse_model.specs.Dictionary.{Dictionary}
use Rattle.daachorse_model.specs.Paths.{walk, is_reached, Leads}
use Rattle.daachorse_model.specs.Prefixes.{IsDead, PassesAt, left_fail, long}

module _ {V : Type 0} (outputs : List (Output V)) where
  -- o is the output at position q + 1, where the chain goes on with `later`
  abbrev pub own_next : Bool → Output V → ℕ → List V × ℕ → List V × ℕ
  own_next true o q later = (value_of o ∷ later.0, later.1)
  own_next false o q later = ([], suc q)

  abbrev pub own_step : Option (Output V) → ℕ → ℕ → (ℕ → List V × ℕ) → List V × ℕ
  own_step None n q later = ([], suc q)
  own_step (Some o) n q later = own_next (length_of o == n) o q (later (parent_of o))

  -- the values of length n that come first in the chain from position p on, and the position after
  -- them; positions fall along a chain, so that p steps are enough
  abbrev pub own_from : ℕ → ℕ → ℕ → List V × ℕ
  own_from zero n p = ([], p)
  own_from (suc steps) n zero = ([], zero)
  own_from (suc steps) n (suc q) = own_step (slice_get outputs q) n q (λ r. own_from steps n r)

-- a machine over the elements of an array: element 0 is the root, and 1 the dead state
pub record Machine (V : Type 0) : Type 0 where
  -- what a unit leads to from an element
  pub child : ℕ → ℕ → Option ℕ
  -- the failure links, 1 for a dead one
  pub fail : ℕ → ℕ
  -- the positions of the elements' first outputs, 0 for none
  pub output : ℕ → ℕ
  pub outputs : List (Output V)

module _ {V : Type 0} (width : ℕ → ℕ) (a : Machine V) where
  -- the own values of element i with text w, and the position where its chain goes on: its own outputs are those of the length of w
  abbrev pub own : List ℕ → ℕ → List V × ℕ
  own w i = own_from a.outputs (a.output i) (size width w) (a.output i)

  abbrev pub values_at : List ℕ → Option ℕ → List V
  values_at w None = []
  values_at w (Some i) = (own w i).0

  -- the dictionary: of each text the own values of the element that it leads to
  abbrev pub content : Dictionary V
  content w = values_at w (walk a.child 0 w)

  -- the element of a link, 1 for a dead one
  abbrev pub element_of : Option (List ℕ) → Option ℕ
  element_of None = Some 1
  element_of (Some l) = walk a.child 0 l

  -- the link that the element with the text w has to have: that of the longest end of w, but w, that leads to an
  -- element; in a leftmost machine the dead one where a key occurs in w and starts before that end does
  abbrev pub right_fail : Bool → List ℕ → Option ℕ
  right_fail true w = element_of (left_fail content (is_reached a.child) w)
  right_fail false [] = None
  right_fail false (u ∷ w) = walk a.child 0 (long (is_reached a.child) w)

  -- the texts whose link is dead: none in a standard machine
  abbrev pub dead_in : Bool → List ℕ → Type 0
  dead_in true w = IsDead content w
  dead_in false w = ⊥

  -- the rules on paths, links and chains of outputs
  pub record IsRight (leftmost : Bool) : Type 0 where
    -- no text leads to the dead state
    pub dead_no_child : (w : List ℕ) → ¬ Leads a.child w 1
    -- no two texts lead to one element
    pub one_path : (i : ℕ) (v w : List ℕ) → Leads a.child v i → Leads a.child w i → v ≡ w
    -- an element that leads nowhere has a value of its own
    pub leaf_has_own : (u i : ℕ) (w : List ℕ) → Leads a.child (u ∷ w) i → ((c : ℕ) → a.child i c ≡ None) → content (u ∷ w) ≢ []
    pub links : (u i : ℕ) (w : List ℕ) → Leads a.child (u ∷ w) i → right_fail leftmost (u ∷ w) ≡ Some (a.fail i)
    -- behind its own outputs an element's chain goes on with that of its link
    pub chains : (u i : ℕ) (w : List ℕ) → Leads a.child (u ∷ w) i → (own (u ∷ w) i).1 ≡ cond (a.fail i == 1) 0 (a.output (a.fail i))
    pub root_chain : (own [] 0).1 ≡ 0

-- a right machine of n elements, whose units with a child are below m
pub record IsMachine {V : Type 0} (width : ℕ → ℕ) (a : Machine V) (leftmost : Bool) (n m : ℕ) : Type 0 where
  pub some : 0 < n
  pub inside : (i c j : ℕ) → a.child i c ≡ Some j → (j < n) × (c < m)
  pub outputs_inside : (i : ℕ) → i < n → a.output i ≤ length a.outputs
  pub parents_fall : ParentsFall a.outputs
  pub right : IsRight width a leftmost

-- so many texts lead to an element
abbrev pub IsCounted : {V : Type 0} → Machine V → ℕ → Type 0
IsCounted a n = PassesAt (is_reached a.child) n
