-- What the leftmost streams over one automaton share, and how they begin.
use Rattle.std.specs.Prelude.{◌≡◌, ℕ, Bool, false, List, [], Option, Some}
use Rattle.std.specs.declared.io.BufReader.{BufReader}
use Rattle.daachorse_streams.specs.Streams.{IsLongest}
use Rattle.daachorse_search.specs.Readers.{IsInBlocks, Reading, to_read}
use Rattle.daachorse_search.specs.Views.{AutomatonView, HasMarks}
use Rattle.daachorse_streams.specs.declared.stream_marks.StreamMarks.{StreamMarks}
use Rattle.daachorse_streams.specs.LeftmostReading.{LeftmostReading}
use Rattle.daachorse_streams.specs.Streamed.{LeftmostStreamed}

-- the marks say which states have a child, and `longest` is how many bytes the longest pattern has
pub record IsMarkedFor {V ALLOC : Type 0} (width : ℕ → ℕ) (view : AutomatonView V) (marks : StreamMarks ALLOC) : Type 0 where
  pub children : HasMarks view marks.children.items
  pub longest : IsLongest width view.content marks.longest

-- nothing was read, and no match was given
pub record BeginsStreaming {V A : Type 0} (a : A) (option : Bool) (s : LeftmostStreamed V A) : Type 0 where
  pub automaton : s.automaton ≡ a
  pub folds : s.folds ≡ option
  pub read : s.read ≡ []
  pub given : s.given ≡ []
  pub ended : s.ended ≡ false
  pub turns : s.turns ≡ 0

-- in what a reader gives, in the same way
abbrev pub BeginsReadingLeftmost : {V A R : Type 0} → A → R → Bool → LeftmostReading V A (Reading R) → Type 0
BeginsReadingLeftmost a reader option search =
    BeginsStreaming a option search.stream × (search.source ≡ Some (to_read reader)) × (search.over ≡ false)

-- in what a reader gives by blocks; `known` is what it has left, if that is known
abbrev pub BeginsLeftmostInBlocks : {V A R Z : Type 0} → (R → Option (List ℕ)) → A → R → Bool
    → LeftmostReading V A (Reading (BufReader R Z)) → Type 0
BeginsLeftmostInBlocks {R = R} {Z = Z} known a reader option search = (blocks : BufReader R Z) × IsInBlocks known reader blocks
    × BeginsReadingLeftmost a blocks option search
