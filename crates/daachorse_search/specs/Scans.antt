-- A scan of a source: a walk reads on to the next unit at whose end there is a match.
use Rattle.std.specs.Prelude.{◌≡◌, ℕ, ◌+◌, ◌<◌, ◌≤◌, List, [], ◌∷◌, ◌++◌, map, length, Option, Some, None}
use Rattle.std.specs.Iterator.{Count, Yields, items_left}
use Rattle.std.specs.declared.num.NonZeroU32.{NonZeroU32}
use Rattle.daachorse_model.specs.Matches.{at_each_end}
use Rattle.daachorse_search.specs.Stepwise.{StepView}

-- what f gives of each beginning of the haystack past t, the units read: w is still to read
abbrev pub past_each_end : {A : Type 0} → (List ℕ → List A) → List ℕ → List ℕ → List A
past_each_end f t [] = []
past_each_end f t (u ∷ w) = at_each_end f (t ++ u ∷ []) w

module _ {V A W S U : Type 0} (view : StepView V A W) (steps : S → Option U → S → Type 0) (left : S → Count) (unit : U → ℕ) where
  -- A walk took the units xs from a source, and found nothing at the end of any.
  pub record ScansOver (from : W) (source : S) (xs : List U) (to : W) (rest : S) : Type 0 where
    pub took : Yields steps source xs rest
    pub fewer : length xs + items_left left rest ≤ items_left left source
    pub same : view.automaton to ≡ view.automaton from
    pub read : view.read to ≡ view.read from ++ map unit xs
    pub none : past_each_end (view.found (view.automaton from)) (view.read from) (map unit xs) ≡ []

  -- what a scan took: units at which nothing was found, and then one more, or the end
  abbrev pub ScanGives : W → S → Option NonZeroU32 → W → S → Type 0
  ScanGives from source None to rest = (xs : List U) × (last : S) × ScansOver from source xs to last × steps last None rest
  ScanGives from source (Some position) to rest = (xs : List U) × (last : S) × (before : W) × (x : U) × ScansOver from source xs before last
      × steps last (Some x) rest × (items_left left rest < items_left left last) × (view.automaton to ≡ view.automaton before) × (view.read to ≡ view.read before ++ unit x ∷ [])
