-- Patterns that are made of characters.
use Rattle.std.specs.Prelude.{ℕ, List, IsTrue}
use Rattle.std.specs.List.{AllByRecursion}
use Rattle.std.specs.Str.{all_scalars}

-- the keys of these entries are texts
abbrev pub AreTexts : {V : Type 0} → List (List ℕ × V) → Type 0
AreTexts entries = AllByRecursion (λ e. IsTrue (all_scalars e.0)) entries
