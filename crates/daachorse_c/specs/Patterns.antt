-- The patterns that C gives: bytes, where each pattern ends in them, and the values.
use Rattle.std.specs.Prelude.{◌≡◌, ℕ, ◌≤◌, ⊤, List, [], ◌∷◌, length, map, slice_range}
use Rattle.std.specs.List.{AllByRecursion}
use Rattle.std.specs.Str.{chars}
use Rattle.daachorse_c.specs.declared.unit.Unit.{Unit}
use Rattle.daachorse_c.specs.declared.unit.Unit.TheVariants.{Byte, Character}
use Rattle.daachorse_c.specs.Units.{IsTextIn}

-- each end is within the bytes, and not before the end in front of it
abbrev pub AreEnds : ℕ → ℕ → List ℕ → Type 0
AreEnds start size [] = ⊤
AreEnds start size (e ∷ es) = (start ≤ e) × (e ≤ size) × AreEnds e size es

pub record ArePatterns (bytes ends values : List ℕ) : Type 0 where
  pub in_order : AreEnds 0 (length bytes) ends
  pub one_each : length ends ≡ length values

-- each pattern begins where the one before it ends, the first at `start`, and has the next of the values
abbrev pub registrations : List ℕ → ℕ → List ℕ → List ℕ → List (List ℕ × ℕ)
registrations bytes start [] values = []
registrations bytes start (e ∷ es) [] = []
registrations bytes start (e ∷ es) (v ∷ vs) = (slice_range bytes start e, v) ∷ registrations bytes e es vs

-- the patterns are texts of this unit
abbrev pub AreTexts : Unit → List (List ℕ × ℕ) → Type 0
AreTexts unit rs = AllByRecursion (λ r. IsTextIn unit r.0) rs

-- the patterns by their units
abbrev pub texts_in : Unit → List (List ℕ × ℕ) → List (List ℕ × ℕ)
texts_in Byte rs = rs
texts_in Character rs = map (λ r. (chars r.0, r.1)) rs
