-- The patterns of a tree with outputs: of each element, in the order of the texts, its text with the values of its own outputs.
use Rattle.std.specs.Prelude.{◌≡◌, ℕ, zero, suc, ◌-◌, ◌≤◌, ◌<◌, ◌==◌, Bool, true, false, cond, List, [], ◌∷◌, ◌++◌, flat_map, length, map, reverse, slice_get, slice_index_or, take, Option, Some, None, ◌≢◌, Result, MatchOption, MatchResult}
use Rattle.daachorse_core.specs.declared.errors.DaachorseError.{DaachorseError}
use Rattle.daachorse_core.specs.Refusals.{IsOutOfMemory}
use Rattle.daachorse_core.specs.declared.outputs.Output.{Output}
use Rattle.daachorse_core.specs.Outputs.{value_of, parent_of, ParentsFall}
use Rattle.daachorse_array.specs.Texts.{IsReached, text_of}
use Rattle.daachorse_array.specs.Edges.{IsTree, TellChildren, members}
use Rattle.daachorse_array.specs.Trees.{IsListed, IsWalk, elements_of, taken_from}

-- the unit of an edge
abbrev pub unit_of : Option (ℕ × ℕ) → ℕ
unit_of None = 0
unit_of (Some e) = e.1

module _ {V : Type 0} (outputs : List (Output V)) where
  abbrev pub value_then : Option (Output V) → (ℕ → List V) → List V
  value_then None later = []
  value_then (Some o) later = value_of o ∷ later (parent_of o)

  -- the values of at most so many outputs, from a position on until another
  abbrev pub values_from : ℕ → ℕ → ℕ → List V
  values_from zero stop p = []
  values_from (suc steps) stop zero = []
  values_from (suc steps) stop (suc q) = cond (suc q == stop) [] (value_then (slice_get outputs q) (λ r. values_from steps stop r))

  -- the values of a chain from a position on until another: positions fall, so that as many steps are enough
  abbrev pub values_until : ℕ → ℕ → List V
  values_until stop p = values_from p stop p

-- a text with each of the values
abbrev pub with_values : {V : Type 0} → List ℕ → List V → List (List ℕ × V)
with_values w vs = map (λ v. (w, v)) vs

-- the patterns of elements: `first` is the position of an element's first output, and `stop` that where its own end
abbrev pub patterns_of : {V : Type 0} → (ℕ → List ℕ) → List (Output V) → (ℕ → ℕ) → (ℕ → ℕ) → List ℕ → List (List ℕ × V)
patterns_of text outputs first stop order = flat_map (λ i. with_values (text i) (values_until outputs (stop i) (first i))) order

-- the position where an element's own outputs end: that of its link's first, and 0 for the root and behind a dead link
abbrev pub own_end : (ℕ → ℕ) → (ℕ → ℕ) → ℕ → ℕ
own_end fail first i = cond (i == 0) 0 (cond (fail i == 1) 0 (first (fail i)))

-- an element has outputs of its own: its chain begins before they end
abbrev pub has_own : (ℕ → ℕ) → (ℕ → ℕ) → ℕ → Bool
has_own fail first i = cond (first i == own_end fail first i) false true

-- What a listing goes over: a tree whose n elements have outputs. A reached one without children has some of its own, unless it is the root.
pub record HasPatterns {V : Type 0} (child : ℕ → ℕ → Option ℕ) (group : ℕ → Option ℕ) (edge : ℕ → Option (ℕ × ℕ)) (n m : ℕ) (outputs : List (Output V)) (first stop : ℕ → ℕ) : Type 0 where
  pub tree : IsTree child n m
  pub tell : TellChildren child group edge n
  pub falls : ParentsFall outputs
  pub inside : (i : ℕ) → i < n → first i ≤ length outputs
  pub leaves : (i : ℕ) → i ≢ 0 → IsReached child m n i → ((c : ℕ) → child i c ≡ None) → values_until outputs (stop i) (first i) ≢ []

module _ {V : Type 0} (child : ℕ → ℕ → Option ℕ) (n m : ℕ) (outputs : List (Output V)) (first stop : ℕ → ℕ) where
  -- all patterns: those of the reached elements, in the order of their texts
  abbrev pub IsPatterns : List (List ℕ × V) → Type 0
  IsPatterns entries = (order : List ℕ) × IsListed child n m order × (entries ≡ patterns_of (text_of child m n) outputs first stop order)

  -- the patterns that are left: those of one text from a position until the end of its own outputs, and those of the elements that are taken from here on
  abbrev pub left_of : List ℕ → List ℕ → ℕ → ℕ → List (List ℕ × V)
  left_of text aside end position =
      with_values text (values_until outputs end position) ++ patterns_of (text_of child m n) outputs first stop (taken_from child n m n aside)

module _ (child : ℕ → ℕ → Option ℕ) (n m : ℕ) (last_text : List ℕ) where
  -- an element behind the length of its text, which begins as the text of the element that was taken last in all units but its own last
  abbrev pub IsAside : ℕ × ℕ → Type 0
  IsAside e = (e.0 ≡ length (text_of child m n e.1)) × (take (e.0 - 1) last_text ≡ take (e.0 - 1) (text_of child m n e.1))

  -- entries whose texts are at most so long, and none longer than that of an entry before it
  abbrev pub AreEntries : ℕ → List (ℕ × ℕ) → Type 0
  AreEntries most [] = Unit {0}
  AreEntries most (e ∷ entries) = (e.0 ≤ most) × IsAside e × AreEntries e.0 entries

-- What holds of a walk over the patterns, with the text of the element that was taken last.
pub record IsListingWalk {V : Type 0} (child : ℕ → ℕ → Option ℕ) (group : ℕ → Option ℕ) (edge : ℕ → Option (ℕ × ℕ)) (n m : ℕ) (outputs : List (Output V)) (first stop : ℕ → ℕ) (groups : List (List ℕ)) (aside : List (ℕ × ℕ)) (last_text : List ℕ) (position : ℕ) : Type 0 where
  pub patterns : HasPatterns child group edge n m outputs first stop
  pub groups_are : (g : ℕ) → g < n → slice_index_or groups g [] ≡ members edge g n
  pub each : length groups ≡ n
  pub walk : 0 < length aside → (taken : List ℕ) × IsWalk child n m taken (elements_of aside)
  pub entries : AreEntries child n m last_text (suc (length last_text)) (reverse aside)
  pub inside : position ≤ length outputs

-- A call gives the first pattern, or an error behind which nothing is left; `text` reads the key.
abbrev pub GivesPattern : {K V : Type 0} → (K → List ℕ) → List (List ℕ × V) → Option (Result (K × V) DaachorseError) → List (List ℕ × V) → Type 0
GivesPattern text s r t =
    MatchOption r ((s ≡ []) × (t ≡ [])) (λ item. MatchResult item (λ e. s ≡ (text e.0, e.1) ∷ t) (λ e. IsOutOfMemory e × (s ≢ []) × (t ≡ [])))

-- A walk over the texts: the one at which it stands, and the patterns of those after it.
pub record Texts (V : Type 0) : Type 0 where
  pub text : List ℕ
  pub left : List (List ℕ × V)

-- Whether a text was left: the walk has come to the first, past all of its patterns.
abbrev pub HasMoved : {V : Type 0} → List (List ℕ × V) → Bool → Texts V → Type 0
HasMoved s true t = (vs : List _) × (vs ≢ []) × (s ≡ with_values t.text vs ++ t.left)
HasMoved s false t = (s ≡ []) × (t.left ≡ [])
