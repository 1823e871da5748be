-- The text of an element: the units on its path from element 0.
use Rattle.std.specs.Prelude.{ℕ, zero, suc, ◌==◌, cond, List, [], ◌∷◌, Option, Some, None, option_and_then}
use Rattle.daachorse_model.specs.Paths.{Leads}

-- the first of two: the unit c before what was found behind it, or what another unit gives
abbrev pub by_unit : ℕ → Option (List ℕ) → Option (List ℕ) → Option (List ℕ)
by_unit c (Some w) other = Some (c ∷ w)
by_unit c None other = other

-- what some unit below m gives
abbrev pub any_unit : (ℕ → Option (List ℕ)) → ℕ → Option (List ℕ)
any_unit f zero = None
any_unit f (suc c) = by_unit c (f c) (any_unit f c)

-- the text, if there is one
abbrev pub or_empty : Option (List ℕ) → List ℕ
or_empty (Some w) = w
or_empty None = []

module _ (child : ℕ → ℕ → Option ℕ) (m : ℕ) where
  -- a text of at most so many units below m that leads from element i to element t
  abbrev pub find_text : ℕ → ℕ → ℕ → Option (List ℕ)
  find_text zero t i = cond (i == t) (Some []) None
  find_text (suc steps) t i = cond (i == t) (Some []) (any_unit (λ c. option_and_then (λ j. find_text steps t j) (child i c)) m)

-- the text of element i of n, whose units are below m
unfoldable pub text_of : (ℕ → ℕ → Option ℕ) → ℕ → ℕ → ℕ → List ℕ
text_of child m n i = or_empty (find_text child m n i 0)

-- an element that some text leads to: its own text does
abbrev pub IsReached : (ℕ → ℕ → Option ℕ) → ℕ → ℕ → ℕ → Type 0
IsReached child m n i = Leads child (text_of child m n i) i
