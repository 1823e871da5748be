-- A search in a haystack that is known as a whole: what callers see of it, and what each call gives.
use Rattle.std.specs.Prelude.{◌≡◌, ℕ, ◌+◌, ◌*◌, ◌≤◌, List, [], ◌∷◌, ◌++◌, length, Option, Some, None, IfNone}
use Rattle.std.specs.declared.num.NonZeroU32.{NonZeroU32}
use Rattle.daachorse_core.specs.Outputs.{number}
use Rattle.daachorse_model.specs.declared.Match.{Match}
use Rattle.daachorse_model.specs.Units.{size}
use Rattle.daachorse_search.specs.Scans.{past_each_end}
use Rattle.daachorse_search.specs.Stepwise.{StepView}

-- what callers see of a search with an automaton A and a filter F: the filter as it began, the whole haystack, the matches that are left, the units behind which the search goes on, those of them that it read since it last began at the root, the turns taken, and the number of matches given
pub record Progress (V A F : Type 0) : Type 0 where
  pub automaton : A
  pub filter : F
  pub haystack : List ℕ
  pub left : List (Match V)
  pub passed : List ℕ
  pub since : List ℕ
  pub turns : ℕ
  pub given : ℕ

-- `stands` says of a match, the haystack and the units passed whether the search goes on where it should behind the match.
module _ {V A F : Type 0} (stands : Match V → List ℕ → List ℕ → Type 0) where
  -- a call gave the first of the matches that are left
  pub record GaveMatch (s : Progress V A F) (m : Match V) (t : Progress V A F) : Type 0 where
    pub automaton : t.automaton ≡ s.automaton
    pub filter : t.filter ≡ s.filter
    pub haystack : t.haystack ≡ s.haystack
    pub first : s.left ≡ m ∷ t.left
    pub counted : t.given ≡ s.given + 1
    pub behind : stands m t.haystack t.passed

  -- no match was left, and all units are passed
  pub record GaveNone (s t : Progress V A F) : Type 0 where
    pub automaton : t.automaton ≡ s.automaton
    pub filter : t.filter ≡ s.filter
    pub haystack : t.haystack ≡ s.haystack
    pub none : s.left ≡ []
    pub still_none : t.left ≡ []
    pub counted : t.given ≡ s.given
    pub all : t.passed ≡ t.haystack

  -- what a call gives
  abbrev pub GivesFirst : Progress V A F → Option (Match V) → Progress V A F → Type 0
  GivesFirst s (Some m) t = GaveMatch s m t
  GivesFirst s None t = GaveNone s t

-- the units passed end where the match does
abbrev pub StandsAtEnd : {V : Type 0} → (ℕ → ℕ) → Match V → List ℕ → List ℕ → Type 0
StandsAtEnd width m haystack passed = m.end ≡ size width passed

-- the pending matches, and what `found` gives of each beginning of the haystack that is to come: `read` was read
abbrev pub matches_left : {V : Type 0} → (List ℕ → List (Match V)) → List (Match V) → List ℕ → List ℕ → List (Match V)
matches_left found pending read rest = pending ++ past_each_end found read rest

module _ {V A W : Type 0} (view : StepView V A W) where
  -- A walk read on in a haystack, and of all that was left found these matches.
  pub record ReadsTo (from : W) (rest : List ℕ) (matches : List (Match V)) (to : W) (later : List ℕ) : Type 0 where
    pub same : view.automaton to ≡ view.automaton from
    pub haystack : view.read to ++ later ≡ view.read from ++ rest
    pub left : past_each_end (view.found (view.automaton from)) (view.read from) rest ≡ matches_left (view.found (view.automaton to)) matches (view.read to) later

  -- From where nothing was pending it read on to where there is something to give, or to the end. No match was passed over.
  pub record ReadsOn (from : W) (rest : List ℕ) (position : Option NonZeroU32) (to : W) (later : List ℕ) : Type 0 where
    pub reads : ReadsTo from rest (view.given_from to (number position)) to later
    pub output : view.has_output to (number position)
    pub ended : IfNone position (later ≡ [])
    pub fewer : length later ≤ length rest
    pub over : rest ≡ [] → to ≡ from

-- The units passed end with those read since a walk last began at the root. For these the turns that it took since keep the walk's bounds, and before it took at most two a unit.
module _ {A : Type 0} (bounds : A → List ℕ → ℕ → Type 0) where
  pub record AreBoundedBehind (a : A) (passed since : List ℕ) (turns : ℕ) : Type 0 where
    pub base : List ℕ
    pub before : ℕ
    pub after : ℕ
    pub parts : passed ≡ base ++ since
    pub sum : turns ≡ before + after
    pub most : before ≤ 2 * length base
    pub walked : bounds a since after
