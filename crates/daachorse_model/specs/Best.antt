-- The best occurrence in a text: the least start, and there the longest key. And what the steps of a leftmost scan keep.
use Rattle.std.specs.Prelude.{◌≡◌, ◌≢◌, ℕ, ◌<◌, ◌≤◌, ◌⊎◌, List, [], ◌∷◌, ◌++◌, length, Option, Some, None}
use Rattle.daachorse_model.specs.Dictionary.{Dictionary}
use Rattle.daachorse_model.specs.Prefixes.{IsLong, Occurs, StartsBefore, IsDead}

module _ {V : Type 0} (K : Dictionary V) where
  -- of all that occurs in w, the key k after a has the least start, and is the longest there
  pub record IsBest (w a k : List ℕ) : Type 0 where
    pub rest : List ℕ
    pub occurs : Occurs K w a k rest
    pub least : (b l c : List ℕ) → Occurs K w b l c → (length a < length b) ⊎ ((length a ≡ length b) × (length l ≤ length k))

  -- the best so far, if there is one
  abbrev pub IsBestSoFar : List ℕ → Option (List ℕ × List ℕ) → Type 0
  IsBestSoFar w None = (a k b : List ℕ) → ¬ Occurs K w a k b
  IsBestSoFar w (Some best) = IsBest w best.0 best.1

  -- nothing starts in the first n units of w
  abbrev pub NoneStarts : ℕ → List ℕ → Type 0
  NoneStarts n w = (a k b : List ℕ) → Occurs K w a k b → n ≤ length a

  -- the text t of a scan that goes on: the longest end, with no occurrence before it
  pub record IsSteady (w t : List ℕ) : Type 0 where
    pub long : IsLong K w t
    pub none : ¬ StartsBefore K w t

  -- nothing that goes on past the unit starts as early as the best in w, and where there is none, the scan goes on at the root
  pub record IsFinalAt (w : List ℕ) (u : ℕ) : Type 0 where
    pub best : (a k rest : List ℕ) → IsBest w a k → IsBest (w ++ u ∷ rest) a k
    pub none : IsBestSoFar w None → IsSteady (w ++ u ∷ []) [] × IsBestSoFar (w ++ u ∷ []) None

  -- a step from w by u leads to t: it goes on, or stops at the root
  abbrev pub LeftSteps : List ℕ → ℕ → List ℕ → Type 0
  LeftSteps w u t = (IsSteady (w ++ u ∷ []) t × (t ≢ [])) ⊎ ((t ≡ []) × IsFinalAt w u)

  -- the dead texts are those of a leftmost automaton
  abbrev pub IsLeftmost : (List ℕ → Type 0) → Type 0
  IsLeftmost dead = (w : List ℕ) → (dead w → IsDead K w) × (IsDead K w → dead w)
