-- The links of a tree of ranks in which some ranks stop: the texts of these are its keys. A standard search has none.
use Rattle.std.specs.Prelude.{◌≡◌, ℕ, Bool, true, cond, List, [], ◌∷◌, Option, Some, None}
use Rattle.daachorse_model.specs.Dictionary.{Dictionary}
use Rattle.daachorse_model.specs.Paths.{walk, is_reached, Leads}
use Rattle.daachorse_model.specs.Prefixes.{key_begins, left_fail, long_unless_key}

module _ (child : ℕ → ℕ → Option ℕ) (stops : ℕ → Bool) where
  -- one value at a rank that stops
  abbrev pub value_at : Option ℕ → List Bool
  value_at None = []
  value_at (Some i) = cond (stops i) (true ∷ []) []

  -- the dictionary of the ranks that stop
  abbrev pub keys : Dictionary Bool
  keys w = value_at (walk child 0 w)

  -- whether a key begins w
  abbrev pub met : List ℕ → Bool
  met w = key_begins keys [] w

  -- the longest end of w that leads to a rank; none where a key begins before it
  abbrev pub left_long : List ℕ → Option (List ℕ)
  left_long w = long_unless_key keys (is_reached child) w

  -- the text of the link of c ∷ w; none where the link is dead
  abbrev pub left_link : ℕ → List ℕ → Option (List ℕ)
  left_link c w = left_fail keys (is_reached child) (c ∷ w)

-- f is the rank of that text, and `dead` where there is none
abbrev pub IsRankOf : (ℕ → ℕ → Option ℕ) → ℕ → Option (List ℕ) → ℕ → Type 0
IsRankOf child dead None f = f ≡ dead
IsRankOf child dead (Some x) f = Leads child x f

-- f is the link of rank t, `dead` for a dead one; any number is that of a rank to which no text but the empty one leads
abbrev pub IsLinkOf : (ℕ → ℕ → Option ℕ) → (ℕ → Bool) → ℕ → ℕ → ℕ → Type 0
IsLinkOf child stops dead t f = (c : ℕ) (w : List ℕ) → Leads child (c ∷ w) t → IsRankOf child dead (left_link child stops c w) f
