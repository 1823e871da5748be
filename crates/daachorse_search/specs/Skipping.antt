-- A search in a haystack that asks a filter of places: where the walk has read to, and where it began again.
use Rattle.std.specs.Prelude.{◌≡◌, ℕ, ◌+◌, ◌*◌, ◌≤◌, ◌⊎◌, Bool, true, List, [], ◌++◌, map, length, Option, Some, None}
use Rattle.std.specs.declared.num.NonZeroU32.{NonZeroU32}
use Rattle.daachorse_core.specs.Outputs.{number}
use Rattle.daachorse_model.specs.declared.Match.{Match}
use Rattle.daachorse_model.specs.Units.{size}
use Rattle.daachorse_model.specs.Matches.{shifted}
use Rattle.daachorse_haystack.specs.Filters.{IsSoundFor, PassesNowhere, count_passing}
use Rattle.daachorse_search.specs.LeftmostSearches.{before_rest}
use Rattle.daachorse_search.specs.Matches.{matches_left}
use Rattle.daachorse_search.specs.Scans.{past_each_end}
use Rattle.daachorse_search.specs.Stepwise.{StepView}

-- the position of the next output to give: of the first of all, where that is still to give
abbrev pub next_position : Option NonZeroU32 → Option NonZeroU32 → ℕ
next_position (Some first) output = first.value
next_position None output = number output

-- nothing is left, or an open filter passes nowhere in what is left, of which nothing was read
abbrev pub HasNoPlace : (List ℕ → Bool) → Type 0 → List ℕ → List ℕ → Type 0
HasNoPlace passes opened read rest = (rest ≡ []) ⊎ (opened × (read ≡ []) × PassesNowhere passes rest)

module _ {V A W : Type 0} (width : ℕ → ℕ) (view : StepView V A W) where
  -- the matches that are left where a walk stands before `rest`, and the next output to give is at the position
  abbrev pub matches_behind : List ℕ → W → List ℕ → ℕ → List (Match V)
  matches_behind whole walk rest position =
      map (shifted (size width (before_rest whole (view.read walk ++ rest)))) (matches_left (view.found (view.automaton walk)) (view.given_from walk position) (view.read walk) rest)

module _ {V A W : Type 0} (width : ℕ → ℕ) (view : StepView V A W) (passes : List ℕ → Bool) where
  -- A walk read on in a haystack, where it began again behind the units `gap`, and of all that was left found these matches. `before` and `taken` are the turns that it took up to where it began.
  pub record SkipsTo (from : W) (rest : List ℕ) (before : ℕ) (matches : List (Match V)) (to : W) (later : List ℕ) (taken : ℕ) : Type 0 where
    pub gap : List ℕ
    pub same : view.automaton to ≡ view.automaton from
    pub haystack : gap ++ (view.read to ++ later) ≡ view.read from ++ rest
    pub fewer : length later ≤ length rest
    pub left : past_each_end (view.found (view.automaton from)) (view.read from) rest ≡ map (shifted (size width gap)) (matches_left (view.found (view.automaton to)) matches (view.read to) later)
    pub most : taken ≤ before + 2 * length gap
    pub single : view.ends_at_once (view.automaton from) → taken ≤ before + length gap
    pub least : before + count_passing passes (view.looks_at (view.automaton from)) (view.read from ++ rest) gap ≤ taken
    pub plain : ((w : List ℕ) → passes w ≡ true) → (gap ≡ []) × (taken ≡ before)

  -- A walk came to the next output: to the first of all, where that was still to give, and else by reading on.
  abbrev pub ComesTo : Option NonZeroU32 → W → List ℕ → ℕ → ℕ → List (Match V) → W → List ℕ → ℕ → Type 0
  ComesTo (Some first) from rest before position matches to later taken = (position ≡ first.value) × (to ≡ from) × (later ≡ rest) × (taken ≡ before)
  ComesTo None from rest before position matches to later taken = SkipsTo from rest before matches to later taken

module _ {V A W : Type 0} (width : ℕ → ℕ) (view : StepView V A W) (passes : List ℕ → Bool) (asked : Type 0) (whole : List ℕ) (bytes : ℕ) where
  -- Between two calls: the next output to give stands at the position, and the walk began behind `base`, up to where it took `before` turns. It asks a filter that passes by `passes`, where `asked` says that it was open at the beginning, and `opened` that it is.
  pub record IsReading (opened : Type 0) (walk : W) (rest : List ℕ) (position before : ℕ) : Type 0 where
    pub output : view.has_output walk position
    pub base : List ℕ
    pub parts : whole ≡ base ++ (view.read walk ++ rest)
    pub spans : bytes ≡ size width whole
    pub sound : IsSoundFor passes (view.content (view.automaton walk))
    pub most : before ≤ 2 * length base
    pub single : view.ends_at_once (view.automaton walk) → before ≤ length base
    pub least : count_passing passes (view.looks_at (view.automaton walk)) whole base ≤ before
    pub plain : ((w : List ℕ) → passes w ≡ true) → (base ≡ []) × (before ≡ 0)
    pub idle : asked → PassesNowhere passes whole → (before + view.turns walk ≡ 0) × HasNoPlace passes opened (view.read walk) rest
