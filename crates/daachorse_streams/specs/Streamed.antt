-- A leftmost search that is given its haystack unit by unit, as its callers see it.
use Rattle.std.specs.Prelude.{◌≡◌, ℕ, ◌<◌, ◌≤◌, Bool, true, false, List, ◌++◌, length, max}
use Rattle.daachorse_model.specs.declared.Match.{Match}
use Rattle.daachorse_model.specs.Certain.{AreCertain}
use Rattle.daachorse_model.specs.Dictionary.{Dictionary}
use Rattle.daachorse_model.specs.Leftmost.{leftmost}
use Rattle.daachorse_model.specs.Prefixes.{IsKey}
use Rattle.daachorse_model.specs.Units.{size}
use Rattle.daachorse_haystack.specs.Filters.{count_passing}
use Rattle.daachorse_streams.specs.Streams.{IsLongest}
use Rattle.daachorse_search.specs.Views.{AutomatonView}

pub record LeftmostStreamed (V A : Type 0) : Type 0 where
  pub automaton : A
  -- whether units are read folded
  pub folds : Bool
  -- the units consumed, as they were read
  pub read : List ℕ
  -- the matches given
  pub given : List (Match V)
  -- whether it may have a certain match to give
  pub waiting : Bool
  -- whether the haystack has ended
  pub ended : Bool
  -- how many units it has room to keep
  pub room : ℕ
  pub turns : ℕ

-- room for as many units as the longest key has bytes, and for one where there is none
abbrev pub IsRoomFor : {V : Type 0} → (ℕ → ℕ) → Dictionary V → ℕ → Type 0
IsRoomFor width K room = (longest : ℕ) × IsLongest width K longest × (room ≡ max longest 1)

-- what a match that is given leaves as it is
abbrev pub IsSameStream : {V A : Type 0} → LeftmostStreamed V A → LeftmostStreamed V A → Type 0
IsSameStream old new = (new.automaton ≡ old.automaton) × (new.folds ≡ old.folds) × (new.read ≡ old.read) × (new.ended ≡ old.ended)

-- No match was given, and none is to give before more units come: those given are all that are certain, and at the end all of the haystack.
pub record IsSettled {V A : Type 0} (width : ℕ → ℕ) (K : Dictionary V) (old new : LeftmostStreamed V A) : Type 0 where
  pub same : new.given ≡ old.given
  pub quiet : new.waiting ≡ false
  pub certain : new.ended ≡ false → AreCertain width K new.read new.given
  pub all : new.ended ≡ true → new.given ≡ leftmost width K new.read

-- So many bytes of a block that comes next were read. No match begins in them, and none before them is left to give.
pub record HasSkipped {V A : Type 0} (width : ℕ → ℕ) (K : Dictionary V) (old : LeftmostStreamed V A) (block : List ℕ) (bytes : ℕ)
    (new : LeftmostStreamed V A) : Type 0 where
  pub front : List ℕ
  pub back : List ℕ
  pub parts : block ≡ front ++ back
  pub ends : bytes ≡ size width front
  pub read : new.read ≡ old.read ++ front
  pub clear : 0 < bytes → leftmost width K new.read ≡ old.given

-- a test says yes only where a key that is not empty is at the beginning of what is still to come
abbrev pub TellsKeys : {V : Type 0} → Dictionary V → (List ℕ → Bool) → Type 0
TellsKeys K test =
    (w : List ℕ) → test w ≡ true → (key : List ℕ) × (rest : List ℕ) × IsKey K key × (0 < length key) × (w ≡ key ++ rest)

-- Each of the first units with a label at which such a key begins took a turn: no test tells more of them than there are turns.
abbrev pub LooksAtKeys : {V : Type 0} → AutomatonView V → List ℕ → List ℕ → ℕ → Type 0
LooksAtKeys view haystack first turns =
    (test : List ℕ → Bool) → TellsKeys view.content test → count_passing test view.has_label haystack first ≤ turns
