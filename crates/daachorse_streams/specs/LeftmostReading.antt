-- A leftmost search over a reader: what each call gives, and what it took of the source.
use Rattle.std.specs.Prelude.{◌≡◌, ℕ, ◌+◌, ◌-◌, ◌≤◌, ◌⊎◌, Bool, true, false, cond, List, [], ◌∷◌, ◌++◌, length, map, Option, Some, None, IfSome, Result, Ok, Err}
use Rattle.std.specs.Iterator.{Count, Yields, YieldsThen, at_most, count_map, items_left}
use Rattle.std.specs.declared.io.Error.{Error}
use Rattle.daachorse_model.specs.declared.Match.{Match}
use Rattle.daachorse_model.specs.Certain.{AreCertain, BeginEach}
use Rattle.daachorse_model.specs.Folding.{as_read}
use Rattle.daachorse_model.specs.Leftmost.{leftmost}
use Rattle.daachorse_haystack.specs.Readings.{MayReadAsRead}
use Rattle.daachorse_search.specs.Readers.{IsLasting}
use Rattle.daachorse_search.specs.Views.{AutomatonView}
use Rattle.daachorse_streams.specs.Streamed.{LeftmostStreamed}

-- what callers see of it: the search in what was read, and the source, or `None` after its end
pub record LeftmostReading (V A S : Type 0) : Type 0 where
  pub stream : LeftmostStreamed V A
  pub source : Option S
  -- whether all was given
  pub over : Bool

-- the search may go on with the source, or the source has ended, and the haystack with it
abbrev pub MayReadOn : {V A S : Type 0} → (S → List ℕ → Type 0) → LeftmostStreamed V A → Option S → Type 0
MayReadOn may_read s (Some source) = (s.ended ≡ false) × MayReadAsRead may_read s.folds source s.read
MayReadOn may_read s None = s.ended ≡ true

module _ {V A S U : Type 0} (width : ℕ → ℕ) (sees : A → AutomatonView V) (steps : S → Option U → S → Type 0) (left : S → Count) (unit : U → ℕ) (failure : S → Option Error) where
  -- what was read, and then the units xs
  abbrev pub read_with : LeftmostStreamed V A → List U → List ℕ
  read_with s xs = s.read ++ as_read s.folds (map unit xs)

  -- once the units xs are read, too, no more matches are certain than were given
  abbrev pub HasGivenAll : LeftmostStreamed V A → List U → Type 0
  HasGivenAll s xs = AreCertain width (sees s.automaton).content (read_with s xs) s.given

  -- The source gave the units xs. It was asked for the last of them where no other match was certain.
  pub record TakesUnits (s : LeftmostStreamed V A) (from : S) (xs : List U) (to : S) : Type 0 where
    pub took : Yields steps from xs to
    pub fewer : length xs + items_left left to ≤ items_left left from
    pub needed : (xs ≡ []) ⊎ ((front : List U) × (last : U) × (xs ≡ front ++ last ∷ []) × HasGivenAll s front)

  -- The source gave the units xs and ended, with an error or with none, where no other match was certain.
  pub record TakesAll (s : LeftmostStreamed V A) (from : S) (xs : List U) (error : Option Error) : Type 0 where
    pub rest : S
    pub took : YieldsThen steps from xs None rest
    pub few : length xs ≤ items_left left from
    pub needed : HasGivenAll s xs
    pub failed : failure rest ≡ error

  -- what a call takes: some units, or all that are left, and behind the end of the source nothing
  abbrev pub Takes : LeftmostStreamed V A → Option S → List U → Option S → Type 0
  Takes s (Some from) xs (Some to) = TakesUnits s from xs to
  Takes s (Some from) xs None = TakesAll s from xs None
  Takes s None xs None = xs ≡ []
  Takes s None xs (Some to) = ⊥

  -- the units xs were read
  pub record HasRead (s : LeftmostStreamed V A) (xs : List U) (t : LeftmostStreamed V A) : Type 0 where
    pub same : t.automaton ≡ s.automaton
    pub folds : t.folds ≡ s.folds
    pub read : t.read ≡ read_with s xs

  -- A call took the units xs, read them, and gave the next match: it is certain, or the source has ended.
  pub record GaveLeftmost (s : LeftmostReading V A S) (xs : List U) (m : Match V) (t : LeftmostReading V A S) : Type 0 where
    pub takes : Takes s.stream s.source xs t.source
    pub reads : HasRead s.stream xs t.stream
    pub given : t.stream.given ≡ s.stream.given ++ m ∷ []
    pub certain : IfSome t.source (λ _. BeginEach width (sees t.stream.automaton).content t.stream.read t.stream.given)
    pub first : (rest : List (Match V)) × (leftmost width (sees t.stream.automaton).content t.stream.read ≡ t.stream.given ++ rest)

  -- what a call gives before the source has ended: the next certain match, or none where the source ends
  abbrev pub ReadsOn : LeftmostStreamed V A → S → Option (Match V) → LeftmostStreamed V A → S → Type 0
  ReadsOn s from (Some m) t to =
      (xs : List U)
      × GaveLeftmost (record { stream = s; source = Some from; over = false }) xs m (record { stream = t; source = Some to; over = false })
  ReadsOn s from None t to = (xs : List U) × TakesAll s from xs (failure to) × HasRead s xs t × (t.given ≡ s.given)

  -- the units xs were read, and no match was given
  pub record ReadInVain (s : LeftmostStreamed V A) (xs : List U) (t : LeftmostStreamed V A) : Type 0 where
    pub reads : HasRead s xs t
    pub given : t.given ≡ s.given

  -- The source has ended with no error, and all matches of the haystack were given.
  pub record GaveAll (s : LeftmostReading V A S) (xs : List U) (t : LeftmostReading V A S) : Type 0 where
    pub takes : Takes s.stream s.source xs None
    pub reads : ReadInVain s.stream xs t.stream
    pub all : t.stream.given ≡ leftmost width (sees t.stream.automaton).content t.stream.read
    pub quiet : t.stream.waiting ≡ false

  -- The source ended with this error.
  pub record GaveError (s : LeftmostReading V A S) (xs : List U) (error : Error) (t : LeftmostReading V A S) : Type 0 where
    pub from : S
    pub had : s.source ≡ Some from
    pub takes : TakesAll s.stream from xs (Some error)
    pub lasting : IsLasting error
    pub reads : ReadInVain s.stream xs t.stream

  -- A call gives the next match. After the last match it gives the error at which the source ended, if it did, and then nothing for ever.
  abbrev pub GivesLeftmost : LeftmostReading V A S → Option (Result (Match V) Error) → LeftmostReading V A S → Type 0
  GivesLeftmost s (Some (Ok m)) t = (s.over ≡ false) × (t.over ≡ false) × ((xs : List U) × GaveLeftmost s xs m t)
  GivesLeftmost s (Some (Err e)) t = (s.over ≡ false) × (t.over ≡ true) × ((xs : List U) × GaveError s xs e t)
  GivesLeftmost s None t = (t.over ≡ true) × (((s.over ≡ true) × (t ≡ s)) ⊎ ((s.over ≡ false) × ((xs : List U) × GaveAll s xs t)))

-- the most units that may still come
abbrev pub units_left : {S : Type 0} → (S → Count) → Option S → Count
units_left left None = at_most 0
units_left left (Some source) = left source

-- the most items that a call may still give: a match at each boundary, less those given, and an error
abbrev pub items_to_give : {V A S : Type 0} → (S → Count) → LeftmostReading V A S → Count
items_to_give left s =
    cond s.over (at_most 0) (count_map (λ n. length s.stream.read + n + 2 - length s.stream.given) (units_left left s.source))
