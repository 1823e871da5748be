-- A search over a source of units, for what `found` gives of each beginning of what was read: all matches that end there, the first of them, or the standard search's.
use Rattle.std.specs.Prelude.{◌≡◌, ℕ, Bool, ◌+◌, ◌≤◌, List, [], ◌∷◌, ◌++◌, map, length, take, Option, Some, None}
use Rattle.std.specs.Iterator.{Count, Yields, YieldsThen, items_left}
use Rattle.daachorse_model.specs.declared.Match.{Match}
use Rattle.daachorse_model.specs.Units.{size}
use Rattle.daachorse_model.specs.Matches.{matches_after, standard_after}
use Rattle.std.specs.Option.{option_to_list}
use Rattle.daachorse_haystack.specs.Readings.{unit_as_read}
use Rattle.daachorse_search.specs.Scans.{past_each_end}
use Rattle.daachorse_search.specs.Views.{AutomatonView}

-- what callers see of a search with an automaton A over a source S: whether units are folded, the units as they were read, the matches that end with them and are still to come, the turns taken, and the number of matches given
pub record SourceProgress (V A S : Type 0) : Type 0 where
  pub automaton : A
  pub source : S
  pub folds : Bool
  pub read : List ℕ
  pub pending : List (Match V)
  pub turns : ℕ
  pub given : ℕ
  pub most : ℕ

-- all matches that end with the units read
abbrev pub all_found : {V A : Type 0} → (ℕ → ℕ) → (A → AutomatonView V) → A → List ℕ → List (Match V)
all_found width sees automaton read = matches_after width (sees automaton).content read

-- the first of them
abbrev pub first_found : {V A : Type 0} → (ℕ → ℕ) → (A → AutomatonView V) → A → List ℕ → List (Match V)
first_found width sees automaton read = take 1 (matches_after width (sees automaton).content read)

-- the standard search's match that ends with the units read
abbrev pub standard_found : {V A : Type 0} → (ℕ → ℕ) → (A → AutomatonView V) → A → List ℕ → List (Match V)
standard_found width sees automaton read = option_to_list (standard_after width (sees automaton).content read)

module _ {V A S U : Type 0} (found : A → List ℕ → List (Match V)) (steps : S → Option U → S → Type 0) (left : S → Count) (unit : U → ℕ) (width : ℕ → ℕ) where
  -- A call took the units xs from the source, and no unit past the match's end. It gave the first of the pending matches and of those that end with xs.
  pub record Gave (s : SourceProgress V A S) (xs : List U) (m : Match V) (t : SourceProgress V A S) : Type 0 where
    pub took : Yields steps s.source xs t.source
    pub fewer : length xs + items_left left t.source ≤ items_left left s.source
    pub same : t.automaton ≡ s.automaton
    pub read : t.read ≡ s.read ++ map unit xs
    pub matches : s.pending ++ past_each_end (found s.automaton) s.read (map unit xs) ≡ m ∷ t.pending
    pub ends : m.end ≡ size width t.read
    pub counted : t.given ≡ s.given + 1

  -- A call took the units xs, and then the source ended: nothing was pending, and no match ends with xs.
  pub record Ended (s : SourceProgress V A S) (xs : List U) (t : SourceProgress V A S) : Type 0 where
    pub took : YieldsThen steps s.source xs None t.source
    pub same : t.automaton ≡ s.automaton
    pub read : t.read ≡ s.read ++ map unit xs
    pub matches : s.pending ++ past_each_end (found s.automaton) s.read (map unit xs) ≡ []
    pub none : t.pending ≡ []
    pub counted : t.given ≡ s.given

  -- what a call gives, where each item is read as its unit
  abbrev pub GivesNext : SourceProgress V A S → Option (Match V) → SourceProgress V A S → Type 0
  GivesNext s (Some m) t = (xs : List U) × Gave s xs m t
  GivesNext s None t = (xs : List U) × Ended s xs t

module _ {V A S U : Type 0} (found : A → List ℕ → List (Match V)) (steps : S → Option U → S → Type 0) (left : S → Count) (unit : U → ℕ) (width : ℕ → ℕ) where
  -- What a call gives. What it took of the source are the items that the source gave, and each was read as it is, or folded.
  pub record GivesFrom (s : SourceProgress V A S) (r : Option (Match V)) (t : SourceProgress V A S) : Type 0 where
    pub folds : t.folds ≡ s.folds
    pub gives : GivesNext found steps left (unit_as_read s.folds unit) width s r t
