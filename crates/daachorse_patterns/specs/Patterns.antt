-- Patterns by their units, and patterns with the values of their indexes.
use Rattle.std.specs.Prelude.{ℕ, ◌+◌, ◌<◌, ◌≡◌, ⊤, List, [], ◌∷◌, length, map, Result, Ok, Err}

-- the registrations that patterns with values stand for
abbrev pub texts_of : {P V : Type 0} → (P → List ℕ) → List (P × V) → List (List ℕ × V)
texts_of units patterns = map (λ p. (units p.0, p.1)) patterns

module _ {V E : Type 0} (gives : ℕ → Result V E → Type 0) {T : Type 0} where
  -- the items, each with the value that its index gives, where the first has index i
  abbrev pub AreIndexed : ℕ → List T → List (T × V) → Type 0
  AreIndexed i [] [] = ⊤
  AreIndexed i [] (r ∷ rs) = ⊥
  AreIndexed i (t ∷ ts) [] = ⊥
  AreIndexed i (t ∷ ts) (r ∷ rs) = (r.0 ≡ t) × gives i (Ok r.1) × AreIndexed (i + 1) ts rs

  -- some index of the items has no value
  abbrev pub HasNoValue : List T → Type 0
  HasNoValue ts = (i : ℕ) × (e : E) × (i < length ts) × gives i (Err e)
