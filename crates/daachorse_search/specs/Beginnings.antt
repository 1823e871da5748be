-- How a search begins: nothing was read, and no turn was taken.
use Rattle.std.specs.Prelude.{◌≡◌, ℕ, Bool, List, [], length, Option, IsSomeAnd}
use Rattle.std.specs.declared.io.BufReader.{BufReader}
use Rattle.daachorse_model.specs.declared.Match.{Match}
use Rattle.daachorse_search.specs.Matches.{Progress}
use Rattle.daachorse_search.specs.Readers.{IsInBlocks, Reading, to_read}
use Rattle.daachorse_search.specs.Searches.{SourceProgress}
use Rattle.daachorse_search.specs.Stepwise.{Stepped}

-- in a haystack: these matches are left, and none was given
pub record BeginsWith {V A F : Type 0} (a : A) (units : List ℕ) (matches : List (Match V)) (s : Progress V A F) : Type 0 where
  pub automaton : s.automaton ≡ a
  pub haystack : s.haystack ≡ units
  pub left : s.left ≡ matches
  pub passed : s.passed ≡ []
  pub turns : s.turns ≡ 0
  pub given : s.given ≡ 0

-- in what a source gives, each unit folded or as it is: these matches end where nothing was read, and are still to come, and none was given
pub record BeginsFrom {V A S : Type 0} (a : A) (from : S) (matches : List (Match V)) (option : Bool) (s : SourceProgress V A S) : Type 0 where
  pub automaton : s.automaton ≡ a
  pub source : s.source ≡ from
  pub folds : s.folds ≡ option
  pub pending : s.pending ≡ matches
  pub read : s.read ≡ []
  pub turns : s.turns ≡ 0
  pub given : s.given ≡ 0

-- in what a reader gives, in the same way
abbrev pub BeginsReading : {V A R : Type 0} → A → R → List (Match V) → Bool → Option (SourceProgress V A (Reading R)) → Type 0
BeginsReading a reader matches option search = IsSomeAnd search (BeginsFrom a (to_read reader) matches option)

-- in what a reader gives by blocks; `known` is what it has left, if that is known
abbrev pub BeginsInBlocks : {V A R Z : Type 0} → (R → Option (List ℕ)) → A → R → List (Match V) → Bool → Option (SourceProgress V A (Reading (BufReader R Z))) → Type 0
BeginsInBlocks {R = R} {Z = Z} known a reader matches option search = (blocks : BufReader R Z) × IsInBlocks known reader blocks × BeginsReading a blocks matches option search

-- in units that it is given one at a time, each folded or as it is, with these depths of the states: these matches end where nothing was read, and they were given
pub record BeginsStepping {V A : Type 0} (a : A) (table : List ℕ) (option : Bool) (matches : List (Match V)) (s : Stepped A) : Type 0 where
  pub automaton : s.automaton ≡ a
  pub depths : s.depths ≡ table
  pub folds : s.folds ≡ option
  pub read : s.read ≡ []
  pub turns : s.turns ≡ 0
  pub given : s.given ≡ length matches
