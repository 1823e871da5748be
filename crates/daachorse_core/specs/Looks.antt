-- What one look at a state tells: where it leads, and the first output there.
use Rattle.std.specs.Prelude.{◌≡◌, ◌⊎◌, ⊤, ℕ, zero, suc, ◌<◌, ◌≤◌, List, [], ◌∷◌, ◌++◌, length, Option, IfSome}
use Rattle.std.specs.declared.num.NonZeroU32.{NonZeroU32}
use Rattle.daachorse_core.specs.Outputs.{number}
use Rattle.daachorse_core.specs.declared.turns.Look.{Look}
use Rattle.daachorse_core.specs.declared.turns.Look.TheVariants.{Next, Fail}
use Rattle.daachorse_model.specs.Dictionary.{Dictionary}
use Rattle.daachorse_model.specs.Prefixes.{IsPrefix, IsLink}
use Rattle.daachorse_model.specs.Outputs.{IsChain}

-- no text that ends in the unit u begins a key
abbrev pub IsForeign : {V : Type 0} → Dictionary V → ℕ → Type 0
IsForeign K u = (w : List ℕ) → ¬ IsPrefix K (w ++ u ∷ [])

-- Where a step ends. `dead` speaks of the texts whose link is dead.
module _ {V : Type 0} (K : Dictionary V) (dead : List ℕ → Type 0) where
  -- n links on from a state with text w the unit u ends the step at the text t: at w u if that begins a key, or else at the root, where there is no link to follow
  abbrev pub EndsAfter : ℕ → List ℕ → ℕ → List ℕ → Type 0
  EndsAfter zero w u t =
      (IsPrefix K (w ++ u ∷ []) × (t ≡ w ++ u ∷ [])) ⊎ ((¬ IsPrefix K (w ++ u ∷ [])) × ((w ≡ []) ⊎ dead w) × (t ≡ []))
  EndsAfter (suc n) w u t = (¬ IsPrefix K (w ++ u ∷ [])) × (¬ dead w) × ((s : List ℕ) × IsLink K w s × EndsAfter n s u t)

  -- the step from a state with text w by the unit u ends at the text t: after some links, or at the root, for a unit that no key has
  abbrev pub StepEnds : List ℕ → ℕ → List ℕ → Type 0
  StepEnds w u t = (IsForeign K u × (t ≡ [])) ⊎ ((n : ℕ) × EndsAfter n w u t)

-- What a look at a state with text w gives for the unit u: the end of the step, or the link to follow. `reached` and `text` speak of the automaton's states.
module _ {V : Type 0} (K : Dictionary V) (reached : ℕ → Type 0) (text : ℕ → List ℕ) (dead : List ℕ → Type 0) where
  abbrev pub LookGives : List ℕ → ℕ → Look → Type 0
  LookGives w u (Next t _) = reached t × StepEnds K dead w u (text t)
  LookGives w u (Fail t) = reached t × (¬ IsPrefix K (w ++ u ∷ [])) × (¬ dead w) × IsLink K w (text t)

  -- what a look that follows no link gives: the end of a step that follows none, or else the link
  abbrev pub LooksOnce : List ℕ → ℕ → Look → Type 0
  LooksOnce w u (Next t _) = reached t × EndsAfter K dead 0 w u (text t)
  LooksOnce w u (Fail t) = LookGives w u (Fail t)

-- Of a state with text w: the outputs from the position on, none at position 0, are those of the keys that end with w, down to a dead link.
module _ {V : Type 0} (width : ℕ → ℕ) (K : Dictionary V) (dead : List ℕ → Type 0) (has_output : ℕ → Type 0) (outputs : ℕ → List (V × ℕ)) (most : ℕ) where
  pub record IsFirstOutput (w : List ℕ) (position : Option NonZeroU32) : Type 0 where
    pub place : has_output (number position)
    pub some : IfSome position (λ p. 0 < length (outputs p.value))
    pub few : length (outputs (number position)) ≤ most
    pub chain : IsChain width K dead w (outputs (number position))

  -- where a look ends the step, it tells the first output of the state there
  abbrev pub TellsOutput : (ℕ → List ℕ) → Look → Type 0
  TellsOutput text (Next t position) = IsFirstOutput (text t) position
  TellsOutput text (Fail t) = ⊤
