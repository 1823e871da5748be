-- What contracts see of a map of edges: its edges, by rising labels.
use Rattle.std.specs.Prelude.{◌≡◌, ℕ, cond, List, Option, Some}
use Rattle.std.specs.declared.cmp.Ordering.{Ordering}
use Rattle.std.specs.BTreeMap.{is_at}
use Rattle.std.specs.List.Sorted.{IsStrictlySortedBy}
use Rattle.std.specs.Map.{lookup, keys_of}

module _ {L : Type 0} (cmp : L → L → Ordering) where
  -- the id at a label
  abbrev pub id_at : List (L × ℕ) → L → Option ℕ
  id_at es c = lookup (is_at (cmp c)) es

  -- each label is below those after it
  abbrev pub IsOrdered : List (L × ℕ) → Type 0
  IsOrdered es = IsStrictlySortedBy cmp (keys_of es)

  -- new has the id t at the label c, and at each other label what old has
  abbrev pub Updates : List (L × ℕ) → List (L × ℕ) → L → ℕ → Type 0
  Updates old new c t = (q : L) → id_at new q ≡ cond (is_at (cmp c) q) (Some t) (id_at old q)
