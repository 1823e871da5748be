-- How a filter stands to the keys of an array.
use Rattle.std.specs.Prelude.{◌≡◌, ℕ, ◌<◌, ◌⊎◌, Bool, true, false, List, ◌++◌, length, All, Contains, Option, Some, slice_index_or, flat_map}
use Rattle.daachorse_model.specs.Paths.{Leads}
use Rattle.daachorse_prefilter.specs.Filters.{Filter, admits}
use Rattle.daachorse_prefilter.specs.Windows.{HasRead}
use Rattle.daachorse_prefilter.specs.declared.prefilter.window.Window.{Window}

module _ (child : ℕ → ℕ → Option ℕ) (bytes : ℕ → List ℕ) where
  -- the filter passes at the beginning of the text of each element that is a key: `bytes` spells a unit
  abbrev pub PassesAll : (ℕ → Bool) → Filter → Type 0
  PassesAll is_key f = (i : ℕ) (w : List ℕ) → Leads child w i → is_key i ≡ true → admits f (flat_map bytes w) ≡ true

-- an entry of a level is an element with the window of a filter; element j has one among these
abbrev pub IsInLevel : List (ℕ × Window) → ℕ → Type 0
IsInLevel level j = (s : Window) × Contains level (j, s)

-- the filter passes at the beginning of each text that the entry's window has read
abbrev pub IsAdmitted : Filter → ℕ × Window → Type 0
IsAdmitted f e = (text : List ℕ) → HasRead f text e.1 → admits f text ≡ true

-- some entry is a key at whose text the filter does not pass
abbrev pub HasRefused : Filter → (ℕ → Bool) → List (ℕ × Window) → Type 0
HasRefused f is_key level = (e : ℕ × Window) × Contains level e × (is_key e.0 ≡ true) × ((text : List ℕ) → HasRead f text e.1 → admits f text ≡ false)

module _ (child : ℕ → ℕ → Option ℕ) (bytes : ℕ → List ℕ) (f : Filter) where
  -- The window of an entry has read a text of d units that leads to its element.
  pub record IsBeginning (d : ℕ) (e : ℕ × Window) : Type 0 where
    pub text : List ℕ
    pub long : length text ≡ d
    pub leads : Leads child text e.0
    pub read : HasRead f (flat_map bytes text) e.1

  -- k is a child of e, and its window has read the child's unit behind what that of e had read
  abbrev pub IsChildOf : ℕ × Window → ℕ × Window → Type 0
  IsChildOf e k = (c : ℕ) × (child e.0 c ≡ Some k.0) × ((text : List ℕ) → HasRead f text e.1 → HasRead f (text ++ bytes c) k.1)

  -- Entries of all children of e were put behind others.
  pub record IsPushed (e : ℕ × Window) (old new : List (ℕ × Window)) : Type 0 where
    pub kids : List (ℕ × Window)
    pub is : new ≡ old ++ kids
    pub each : All (IsChildOf e) kids
    pub all : (c j : ℕ) → child e.0 c ≡ Some j → IsInLevel kids j

  module _ (is_key : ℕ → Bool) where
    -- The next level of the first n entries: the children of those at whose texts the filter does not pass, none of which is a key.
    pub record IsNextOf (level : List (ℕ × Window)) (n : ℕ) (next : List (ℕ × Window)) : Type 0 where
      pub each : All (λ k. (e : ℕ × Window) × Contains level e × IsChildOf e k) next
      pub all : (k : ℕ) (default : ℕ × Window) → k < n →
          IsAdmitted f (slice_index_or level k default) ⊎ ((is_key (slice_index_or level k default).0 ≡ false) × ((c j : ℕ) → child (slice_index_or level k default).0 c ≡ Some j → IsInLevel next j))

    -- The level of the texts of d units: it has entries of those at which the filter does not pass. It passes at all shorter keys.
    pub record IsLevel (d : ℕ) (level : List (ℕ × Window)) : Type 0 where
      pub begun : All (IsBeginning d) level
      pub all : (w : List ℕ) (i : ℕ) → length w ≡ d → Leads child w i → (admits f (flat_map bytes w) ≡ true) ⊎ IsInLevel level i
      pub short : (w : List ℕ) (i : ℕ) → length w < d → Leads child w i → is_key i ≡ true → admits f (flat_map bytes w) ≡ true
