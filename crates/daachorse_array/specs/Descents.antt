-- What a walk down a machine from its root still has to find.
use Rattle.std.specs.Prelude.{◌≡◌, ℕ, ◌+◌, ◌<◌, ◌≤◌, ◌^◌, ◌==◌, cond, List, [], ◌∷◌, ◌++◌, length, map, Option, Some, None, IfSome, slice_get}
use Rattle.daachorse_core.specs.Outputs.{ParentsFall, outputs_at}
use Rattle.daachorse_core.specs.declared.outputs.Output.{Output}
use Rattle.daachorse_model.specs.declared.Match.{Match}
use Rattle.daachorse_model.specs.Paths.{walk}
use Rattle.daachorse_model.specs.Units.{size}
use Rattle.daachorse_array.specs.Machines.{Machine}

-- the values of the outputs that come first and have this length
abbrev pub own_values : {V : Type 0} → ℕ → List (V × ℕ) → List V
own_values n [] = []
own_values n (o ∷ rest) = cond (o.1 == n) (o.0 ∷ own_values n rest) []

-- the matches from 0 to a place, with these values
abbrev pub matches_to : {V : Type 0} → ℕ → List V → List (Match V)
matches_to place values = map (λ v. record { start = 0; end = place; value = v }) values

-- outputs may be read from a position on
abbrev pub MayRead : {V : Type 0} → List (Output V) → ℕ → Type 0
MayRead outputs p = ParentsFall outputs × (p ≤ length outputs)

-- a walk may go on from a place: the element there, if there is one, is one of n, and all places of the text are numbers of 64 bits
abbrev pub MayGoOn : (ℕ → ℕ) → ℕ → ℕ → Option ℕ → List ℕ → Type 0
MayGoOn width n place element w = IfSome element (λ i. i < n) × (place + size width w < 2 ^ 64)

module _ {V : Type 0} (a : Machine V) where
  -- the element, one of n, that a text leads to, if there is one
  abbrev pub IsWalk : ℕ → List ℕ → Option ℕ → Type 0
  IsWalk n w result = (result ≡ walk a.child 0 w) × IfSome result (λ i. i < n)

  -- the own values of an element whose text has this length; none where there is no element
  abbrev pub values_in : ℕ → Option ℕ → List V
  values_in length None = []
  values_in length (Some i) = own_values length (outputs_at a.outputs (a.output i))

  -- the first match of the element whose text ends at a place
  abbrev pub first_at : ℕ → Option ℕ → Option (Match V)
  first_at place element = slice_get (matches_to place (values_in place element)) 0

module _ {V : Type 0} (width : ℕ → ℕ) (a : Machine V) where
  -- the matches that end past a place, from the element there on, where w is still to read
  abbrev pub matches_past : ℕ → Option ℕ → List ℕ → List (Match V)
  matches_past place None w = []
  matches_past place (Some i) [] = []
  matches_past place (Some i) (u ∷ w) =
      let next = a.child i u in
      let end = place + width u in
      matches_to end (values_in a end next) ++ matches_past end next w

  -- those that end at a place with these values, and those past it
  abbrev pub matches_left : ℕ → List V → Option ℕ → List ℕ → List (Match V)
  matches_left place values element w = matches_to place values ++ matches_past place element w
