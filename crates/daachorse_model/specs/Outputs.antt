-- The outputs of a state: the values of its text and of the ends of it, each with the size of its key.
use Rattle.std.specs.Prelude.{ℕ, ◌-◌, ◌≤◌, List, [], ◌∷◌, ◌++◌, map}
use Rattle.std.specs.List.{AllByRecursion}
use Rattle.daachorse_model.specs.declared.Match.{Match}
use Rattle.daachorse_model.specs.Units.{size}
use Rattle.daachorse_model.specs.Dictionary.{Dictionary}
use Rattle.daachorse_model.specs.Prefixes.{IsLink}

-- outputs as the matches that end at a place
abbrev pub matches_of_outputs : {V : Type 0} → ℕ → List (V × ℕ) → List (Match V)
matches_of_outputs place outputs = map (λ o. record { start = place - o.1; end = place; value = o.0 }) outputs

-- no output is longer than the place where it ends
abbrev pub AllWithin : {V : Type 0} → ℕ → List (V × ℕ) → Type 0
AllWithin place outputs = AllByRecursion (λ o. o.1 ≤ place) outputs

module _ {V : Type 0} (width : ℕ → ℕ) (K : Dictionary V) where
  -- the own outputs of a text: its values
  abbrev pub own_outputs : List ℕ → List (V × ℕ)
  own_outputs w = map (λ v. (v, size width w)) (K w)

  -- the outputs of a text and of each of its ends, the longest first
  abbrev pub outputs_of_ends : List ℕ → List (V × ℕ)
  outputs_of_ends [] = own_outputs []
  outputs_of_ends (u ∷ w) = own_outputs (u ∷ w) ++ outputs_of_ends w

-- The output chain of a state, where `dead` says which texts have a dead link.
module _ {V : Type 0} (width : ℕ → ℕ) (K : Dictionary V) (dead : List ℕ → Type 0) where
  -- the outputs of the state of a text: its own, and then those of its link, unless that is dead
  pub data IsChain : List ℕ → List (V × ℕ) → Type 0 where
    at_root : IsChain [] (own_outputs width K [])
    at_dead : {w : List ℕ} → dead w → IsChain w (own_outputs width K w)
    before_link : {w s : List ℕ} {l : List (V × ℕ)} → IsLink K w s → (¬ dead w) → IsChain s l → IsChain w (own_outputs width K w ++ l)
