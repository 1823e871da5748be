-- Paths in an automaton, by what a unit leads to from a state. State 0 is the root.
use Rattle.std.specs.Prelude.{◌≡◌, ℕ, Bool, List, [], ◌∷◌, Option, Some, is_some, option_and_then}

module _ {A : Type 0} (child : ℕ → A → Option ℕ) where
  -- the state to which a text leads from state i
  abbrev pub walk : ℕ → List A → Option ℕ
  walk i [] = Some i
  walk i (c ∷ w) = option_and_then (λ j. walk j w) (child i c)

  -- whether a text leads to a state from the root
  abbrev pub is_reached : List A → Bool
  is_reached w = is_some (walk 0 w)

  -- a text leads to state i from the root
  abbrev pub Leads : List A → ℕ → Type 0
  Leads w i = walk 0 w ≡ Some i
