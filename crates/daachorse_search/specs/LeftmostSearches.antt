-- A leftmost search between two calls.
use Rattle.std.specs.Prelude.{◌≡◌, ℕ, ◌+◌, ◌-◌, ◌*◌, ◌<◌, ◌≤◌, ◌^◌, ◌⊎◌, Bool, true, false, cond, IsTrue, List, [], ◌∷◌, ◌++◌, length, take}
use Rattle.daachorse_model.specs.declared.Match.{Match}
use Rattle.daachorse_model.specs.Units.{size}
use Rattle.daachorse_model.specs.Dictionary.{Dictionary}
use Rattle.daachorse_model.specs.Leftmost.{leftmost_from}
use Rattle.daachorse_search.specs.BestScans.{HasNoLongerKey}
use Rattle.daachorse_haystack.specs.Filters.{IsSoundFor, PassesNoneBefore, PassesNowhere, count_passing}
use Rattle.daachorse_search.specs.Views.{AutomatonView, IsLeftmostView}

-- the units passed end one unit behind the place, or at it where they are the whole haystack
abbrev pub EndsUnitBehind : (ℕ → ℕ) → ℕ → List ℕ → List ℕ → Type 0
EndsUnitBehind width place haystack passed =
    ((front : List ℕ) × (u : ℕ) × (passed ≡ front ++ u ∷ []) × (size width front ≡ place)) ⊎ ((passed ≡ haystack) × (size width passed ≡ place))

-- Where a leftmost search goes on behind a match: at its end, and behind an empty one at the next boundary or at the haystack's end.
pub record StandsBehind {V : Type 0} (width : ℕ → ℕ) (m : Match V) (haystack passed : List ℕ) : Type 0 where
  pub nonempty : m.start < m.end → size width passed ≡ m.end
  pub empty : m.start ≡ m.end → EndsUnitBehind width m.end haystack passed

-- one unit was taken off the rest, or there was none
abbrev pub SkipsUnit : List ℕ → List ℕ → Bool → Type 0
SkipsUnit rest later false = (u : ℕ) × (rest ≡ u ∷ later)
SkipsUnit rest later true = (rest ≡ []) × (later ≡ [])

-- The rest is moved on to `later` over units where a filter does not pass; where the filter is open, to the first place that passes, or to the end.
pub record IsSkipped (passes : List ℕ → Bool) (opened : Type 0) (rest later : List ℕ) : Type 0 where
  pub front : List ℕ
  pub parts : rest ≡ front ++ later
  pub none : PassesNoneBefore passes later rest
  pub here : opened → (later ≡ []) ⊎ (passes later ≡ true)

-- the units of the whole haystack that come before the rest
abbrev pub before_rest : List ℕ → List ℕ → List ℕ
before_rest whole rest = take (length whole - length rest) whole

-- the place where the rest begins, in a haystack of so many bytes
abbrev pub place_at : (ℕ → ℕ) → ℕ → List ℕ → ℕ
place_at width bytes rest = bytes - size width rest

-- the haystack has so many bytes
abbrev pub Spans : (ℕ → ℕ) → ℕ → List ℕ → Type 0
Spans width bytes whole = bytes ≡ size width whole

module _ {V : Type 0} (width : ℕ → ℕ) (K : Dictionary V) where
  -- the matches that are left where the rest begins at the place
  abbrev pub leftmost_left : ℕ → List ℕ → Bool → Bool → List (Match V)
  leftmost_left place rest after done = cond done [] (leftmost_from width K place 0 after rest)

  -- the turns that the empty match right after a nonempty one may take, which is not given
  abbrev pub spare_turns : ℕ → Bool → ℕ
  spare_turns m after = cond after (2 * m) 0

  -- at most two turns a unit passed, and four times the units of the longest key a match
  abbrev pub IsWithin : ℕ → Bool → ℕ → ℕ → Type 0
  IsWithin passed after turns given = (m : ℕ) → HasNoLongerKey K m → turns + spare_turns m after ≤ 2 * passed + 4 * (m * given)

module _ {V : Type 0} (width : ℕ → ℕ) (view : AutomatonView V) (passes : List ℕ → Bool) (asked : Type 0) where
  -- The search goes on where `rest` begins. It asks a filter that passes by `passes`, where `asked` says that it was open at the beginning, and `opened` that it is.
  pub record IsResting (opened : Type 0) (whole rest : List ℕ) (place : ℕ) (after done : Bool) (turns given : ℕ) : Type 0 where
    pub kind : IsLeftmostView view
    pub sound : IsSoundFor passes view.content
    pub passed : List ℕ
    pub parts : whole ≡ passed ++ rest
    pub here : place ≡ size width passed
    pub fits : size width whole < 2 ^ 64
    pub ended : IsTrue done → rest ≡ []
    pub most : IsWithin width view.content (length passed) after turns given
    pub least : count_passing passes view.has_label whole passed ≤ turns
    pub idle : asked → PassesNowhere passes whole → (turns ≡ 0) × (opened ⊎ (rest ≡ []))
