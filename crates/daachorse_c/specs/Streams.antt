-- A stream: a haystack that comes in pieces, the search that goes through it, where this stands, and what it has reported.
use Rattle.std.specs.Prelude.{◌≡◌, ◌⊎◌, ℕ, ⊤, ◌+◌, ◌<◌, ◌≤◌, Bool, true, false, List, [], ◌∷◌, ◌++◌, cond, take, drop, length, option_to_list, slice_index}
use Rattle.std.specs.declared.alloc.Global.{Global}
use Rattle.daachorse_core.specs.Seen.{units}
use Rattle.daachorse_model.specs.declared.Match.{Match}
use Rattle.daachorse_model.specs.declared.MatchKind.{MatchKind}
use Rattle.daachorse_model.specs.Certain.{AreCertain}
use Rattle.daachorse_model.specs.Dictionary.{Dictionary}
use Rattle.daachorse_model.specs.Folding.{as_read}
use Rattle.daachorse_model.specs.Matches.{standard_after}
use Rattle.daachorse_model.specs.Units.{byte_width, char_width, size}
use Rattle.daachorse_search.specs.Standings.{IsFindStanding}
use Rattle.daachorse_search.specs.Views.{AutomatonView}
use Rattle.daachorse_streams.specs.declared.stream_marks.StreamMarks.{StreamMarks}
use Rattle.daachorse_streams.specs.Marked.{IsMarkedFor}
use Rattle.daachorse_streams.specs.Standings.{IsLeftmostStanding, streamed_by}
use Rattle.daachorse_streams.specs.Streamed.{IsSettled, LeftmostStreamed}
use Rattle.daachorse_bytewise_states.specs.Valid.{sees as sees_bytes}
use Rattle.daachorse_charwise_states.specs.Valid.{sees as sees_characters}
use Rattle.daachorse_c.specs.declared.found.CMatch.{CMatch}
use Rattle.daachorse_c.specs.declared.search.StreamKind.{StreamKind}
use Rattle.daachorse_c.specs.declared.search.StreamKind.TheVariants.{Find, Overlapping, NoSuffix, Leftmost}
use Rattle.daachorse_c.specs.declared.stepper.Finder.{Finder}
use Rattle.daachorse_c.specs.declared.stepper.Standing.{Standing}
use Rattle.daachorse_c.specs.declared.stepper.Standing.TheVariants.{Find as AtFind, Overlapping as AtOverlapping, Leftmost as AtLeftmost}
use Rattle.daachorse_c.specs.declared.stepper.Stepper.{Stepper}
use Rattle.daachorse_c.specs.declared.stepper.Stepper.TheVariants.{Find as Finding, Overlapping as FindingAll, Leftmost as FindingLeftmost}
use Rattle.daachorse_c.specs.declared.feeding.Done.{Done}
use Rattle.daachorse_c.specs.declared.stream.Stream.{Stream}
use Rattle.daachorse_c.specs.declared.unit.Unit.{Unit}
use Rattle.daachorse_c.specs.declared.unit.Unit.TheVariants.{Byte, Character}
use Rattle.daachorse_c.specs.Automata.{Automaton, Bytes, Characters, dictionary_of, folds_of, unit_of, width_of}
use Rattle.daachorse_c.specs.Searches.{ServesKind, found_by, search_of}
use Rattle.daachorse_c.specs.OverlappingStreams.{IsReporting, Reporting, left_from}
use Rattle.daachorse_c.specs.Units.{IsOpenIn, IsWrongIn, spelled_in}
use Rattle.daachorse_c.specs.Writes.{WritesAll}

-- ---- the search

module _ (width : ℕ → ℕ) where
  -- what it finds in a text
  abbrev pub found_in : StreamKind → Dictionary ℕ → List ℕ → List (Match ℕ)
  found_in kind K text = found_by width (search_of kind) K text

  -- what it finds in each text that goes on begins with these
  abbrev pub BeginEachFound : StreamKind → Dictionary ℕ → List ℕ → List (Match ℕ) → Type 0
  BeginEachFound kind K text ms = (more : List ℕ) → (rest : List (Match ℕ)) × (found_in kind K (text ++ more) ≡ ms ++ rest)

  -- these are all that are certain where the text may go on: what it finds in the text, but of leftmost matches those that no text changes that goes on
  abbrev pub AreAllCertain : StreamKind → Dictionary ℕ → List ℕ → List (Match ℕ) → Type 0
  AreAllCertain Find K text ms = ms ≡ found_in Find K text
  AreAllCertain Overlapping K text ms = ms ≡ found_in Overlapping K text
  AreAllCertain NoSuffix K text ms = ms ≡ found_in NoSuffix K text
  AreAllCertain Leftmost K text ms = AreCertain width K text ms

  -- of the elements of an automaton a leftmost search has to know which have a child
  abbrev pub AreMarksFor : StreamKind → AutomatonView ℕ → StreamMarks Global → Type 0
  AreMarksFor Find view marks = ⊤
  AreMarksFor Overlapping view marks = ⊤
  AreMarksFor NoSuffix view marks = ⊤
  AreMarksFor Leftmost view marks = IsMarkedFor width view marks

-- all matches, or the longest at each end
abbrev pub all_or_longest : Bool → StreamKind
all_or_longest longest_only = cond longest_only NoSuffix Overlapping

-- ---- steppers

-- n more matches were reported, after those before them, and written
pub record ReportsMore (has_reported : List (Match ℕ) → Type 0) (before : List (Match ℕ)) (old new : List CMatch) (n : ℕ) : Type 0 where
  pub more : List (Match ℕ)
  pub reported : has_reported (before ++ more)
  pub writes : WritesAll more old new n

module _ {S : Type 0} (width : ℕ → ℕ) (standard : S → AutomatonView ℕ) where
  -- what ends with the units and was not reported
  abbrev pub left_to : {T U : Type 0} → Finder S T U → List (Match ℕ)
  left_to f = cond f.reported [] (option_to_list (standard_after width (standard f.stepper.automaton).content f.stepper.read))

  -- these were reported of the matches that do not overlap
  abbrev pub HasReportedOne : {T U : Type 0} → Finder S T U → List (Match ℕ) → Type 0
  HasReportedOne f reported = found_in width Find (standard f.stepper.automaton).content f.stepper.read ≡ reported ++ left_to f

  -- these were reported of all matches, or of the longest
  abbrev pub HasReportedAll : Reporting S → List (Match ℕ) → Type 0
  HasReportedAll s reported = found_in width (all_or_longest s.longest_only) (standard s.automaton).content s.read ≡ reported ++ s.left

-- these were given of the leftmost matches, and are certain
pub record HasGiven {L : Type 0} (width : ℕ → ℕ) (leftmost : L → AutomatonView ℕ) (s : LeftmostStreamed ℕ L) (reported : List (Match ℕ)) : Type 0 where
  pub given : s.given ≡ reported
  pub certain : s.ended ≡ false → BeginEachFound width Leftmost (leftmost s.automaton).content s.read reported
  pub first : (rest : List (Match ℕ)) × (found_in width Leftmost (leftmost s.automaton).content s.read ≡ reported ++ rest)

module _ {S L T U V W : Type 0} where
  abbrev pub kind_in : Stepper S L T U V W → StreamKind
  kind_in (Finding f) = Find
  kind_in (FindingAll s) = all_or_longest s.longest_only
  kind_in (FindingLeftmost s) = Leftmost

  -- whether units are folded
  abbrev pub folds_in : Stepper S L T U V W → Bool
  folds_in (Finding f) = f.stepper.folds
  folds_in (FindingAll s) = s.folds
  folds_in (FindingLeftmost s) = s.folds

  -- the units that were consumed, as they were read
  abbrev pub read_in : Stepper S L T U V W → List ℕ
  read_in (Finding f) = f.stepper.read
  read_in (FindingAll s) = s.read
  read_in (FindingLeftmost s) = s.read

  -- it searches in a, or where the search is leftmost in b
  abbrev pub IsOver : S → L → Stepper S L T U V W → Type 0
  IsOver a b (Finding f) = f.stepper.automaton ≡ a
  IsOver a b (FindingAll s) = s.automaton ≡ a
  IsOver a b (FindingLeftmost s) = s.automaton ≡ b

  -- a leftmost search knows whether the haystack has ended
  abbrev pub KnowsEnd : Bool → Stepper S L T U V W → Type 0
  KnowsEnd ended (Finding f) = ⊤
  KnowsEnd ended (FindingAll s) = ⊤
  KnowsEnd ended (FindingLeftmost s) = s.ended ≡ ended

module _ {S L T U V W : Type 0} (width : ℕ → ℕ) (standard : S → AutomatonView ℕ) (leftmost : L → AutomatonView ℕ) where
  abbrev pub dictionary_in : Stepper S L T U V W → Dictionary ℕ
  dictionary_in (Finding f) = (standard f.stepper.automaton).content
  dictionary_in (FindingAll s) = (standard s.automaton).content
  dictionary_in (FindingLeftmost s) = (leftmost s.automaton).content

  -- these were reported of what the search finds
  abbrev pub HasReported : Stepper S L T U V W → List (Match ℕ) → Type 0
  HasReported (Finding f) reported = HasReportedOne width standard f reported
  HasReported (FindingAll s) reported = HasReportedAll width standard s reported
  HasReported (FindingLeftmost s) reported = HasGiven width leftmost s reported

  -- nothing is left to report before more units come
  abbrev pub IsQuiet : Stepper S L T U V W → Type 0
  IsQuiet (Finding f) = left_to width standard f ≡ []
  IsQuiet (FindingAll s) = s.left ≡ []
  IsQuiet (FindingLeftmost s) = IsSettled width (leftmost s.automaton).content s s

  -- it searches in a and b, has consumed nothing and reported nothing
  pub record BeginsStepping (a : S) (b : L) (folded : Bool) (kind : StreamKind) (s : Stepper S L T U V W) : Type 0 where
    pub over : IsOver a b s
    pub folds : folds_in s ≡ folded
    pub search : kind_in s ≡ kind
    pub read : read_in s ≡ []
    pub unended : KnowsEnd false s
    pub reported : HasReported s []

-- ---- where they stand

module _ {N : Type 0} where
  abbrev pub kind_by : Standing N → StreamKind
  kind_by (AtFind s reported) = Find
  kind_by (AtOverlapping s) = all_or_longest s.longest_only
  kind_by (AtLeftmost s) = Leftmost

  abbrev pub read_by : Standing N → List ℕ
  read_by (AtFind s reported) = units s.walk.seen
  read_by (AtOverlapping s) = units s.walk.seen
  read_by (AtLeftmost s) = s.read

  -- a leftmost search has not been reported that the haystack has ended
  abbrev pub IsUnended : Standing N → Type 0
  IsUnended (AtFind s reported) = ⊤
  IsUnended (AtOverlapping s) = ⊤
  IsUnended (AtLeftmost s) = s.ended ≡ false

  -- it has consumed so many bytes
  abbrev pub IsPlaced : (ℕ → ℕ) → Standing N → Type 0
  IsPlaced width (AtFind s reported) = s.place ≡ size width (units s.walk.seen)
  IsPlaced width (AtOverlapping s) = s.place ≡ size width (units s.walk.seen)
  IsPlaced width (AtLeftmost s) = s.place ≡ size width s.read

module _ {S L N : Type 0} (width : ℕ → ℕ) (standard : S → AutomatonView ℕ) (leftmost : L → AutomatonView ℕ) (unit : N → ℕ) (a : S) (b : L) where
  -- a stepper over a and b stands so
  abbrev pub StandsIn : Standing N → Type 0
  StandsIn (AtFind s reported) = IsFindStanding width standard a s
  StandsIn (AtOverlapping s) = IsReporting width standard a s
  StandsIn (AtLeftmost s) = IsLeftmostStanding width leftmost b unit s

module _ {S L N : Type 0} (width : ℕ → ℕ) (standard : S → AutomatonView ℕ) (leftmost : L → AutomatonView ℕ) (a : S) (b : L) where
  -- it has reported these
  abbrev pub HasReportedBy : Bool → Standing N → List (Match ℕ) → Type 0
  HasReportedBy folds (AtFind s last) reported =
      found_in width Find (standard a).content (units s.walk.seen) ≡ reported ++ cond last [] (option_to_list (standard_after width (standard a).content (units s.walk.seen)))
  HasReportedBy folds (AtOverlapping s) reported = found_in width (all_or_longest s.longest_only) (standard a).content (units s.walk.seen) ≡ reported ++ left_from width standard a s
  HasReportedBy folds (AtLeftmost s) reported = HasGiven width leftmost (streamed_by width leftmost b folds s) reported

-- ---- streams

-- the matches that a stream has reported, for a dictionary K
abbrev pub reported_in : (ℕ → ℕ) → Dictionary ℕ → Stream ℕ → List (Match ℕ)
reported_in width K s = take s.reported (found_in width (kind_by s.standing) K (read_by s.standing))

-- a stream goes on over states p, and has reported the first of the matches
pub record GoesOnOver {P : Type 0} (which : Unit) (width : ℕ → ℕ) (sees : P → AutomatonView ℕ) (p : P) (kind : MatchKind) (folds : Bool) (s : Stream ℕ) : Type 0 where
  pub serves : ServesKind (search_of (kind_by s.standing)) kind
  pub marks : AreMarksFor width (kind_by s.standing) (sees p) s.marks
  pub stands : StandsIn width sees sees (λ unit. unit) p p s.standing
  pub unended : s.ended ≡ false → IsUnended s.standing
  pub reported : HasReportedBy width sees sees p p folds s.standing (reported_in width (sees p).content s)
  pub counted : length (reported_in width (sees p).content s) ≡ s.reported
  pub partial : IsOpenIn which s.partial
  pub whole : s.ended ≡ true → s.partial ≡ []

-- a stream goes on in an automaton
abbrev pub GoesOnIn : Automaton → Stream ℕ → Type 0
GoesOnIn (Bytes a) s = GoesOnOver Byte byte_width sees_bytes a.parts a.parts.kind a.folds s
GoesOnIn (Characters a) s = GoesOnOver Character char_width sees_characters a.parts a.parts.kind a.folds s

-- it has consumed nothing, and reported nothing
pub record IsAtBeginning (kind : StreamKind) (s : Stream ℕ) : Type 0 where
  pub search : kind_by s.standing ≡ kind
  pub read : read_by s.standing ≡ []
  pub partial : s.partial ≡ []
  pub reported : s.reported ≡ 0
  pub unended : s.ended ≡ false

-- after the bytes of a unit that was partial, the bytes spell these units, and then one that begins
pub record Spells (which : Unit) (partial bytes : List ℕ) (units later : List ℕ) : Type 0 where
  pub splits : partial ++ bytes ≡ spelled_in which units ++ later
  pub begins : IsOpenIn which later

-- The byte after the first n was needed: before it all that is certain was reported, and there was room for more.
pub record WasNeeded (which : Unit) (width : ℕ → ℕ) (kind : StreamKind) (K : Dictionary ℕ) (folds : Bool) (partial bytes read : List ℕ) (room n : ℕ) (reported : List (Match ℕ)) : Type 0 where
  pub some : List (Match ℕ)
  pub rest : List (Match ℕ)
  pub first : reported ≡ some ++ rest
  pub units : List ℕ
  pub later : List ℕ
  pub spells : Spells which partial (take n bytes) units later
  pub certain : AreAllCertain width kind K (read ++ as_read folds units) some
  pub fewer : length some < room

-- From s to t some of the bytes were consumed, none that was not needed, and the next of the matches in what was read were written, which are certain. Unless there was no more room, all bytes were consumed that begin a unit, and all was reported that is certain so far, or after the end all that there is.
pub record ReportsBy (which : Unit) (width : ℕ → ℕ) (K : Dictionary ℕ) (folds : Bool) (bytes : List ℕ) (s t : Stream ℕ) (old new : List CMatch) (done : Done) : Type 0 where
  pub search : kind_by t.standing ≡ kind_by s.standing
  pub ended : t.ended ≡ s.ended
  pub within : done.taken ≤ length bytes
  pub units : List ℕ
  pub spells : Spells which s.partial (take done.taken bytes) units t.partial
  pub read : read_by t.standing ≡ read_by s.standing ++ as_read folds units
  pub counted : t.reported ≡ s.reported + done.written
  pub reported : take s.reported (reported_in width K t) ≡ reported_in width K s
  pub writes : WritesAll (drop s.reported (reported_in width K t)) old new done.written
  pub needed : (n : ℕ) → done.taken ≡ n + 1 → WasNeeded which width (kind_by s.standing) K folds s.partial bytes (read_by s.standing) (s.reported + length old) n (reported_in width K t)
  pub full : done.taken < length bytes → (done.written ≡ length old) ⊎ IsWrongIn which (t.partial ++ slice_index bytes done.taken ∷ [])
  pub certain : t.ended ≡ false → BeginEachFound width (kind_by t.standing) K (read_by t.standing) (reported_in width K t)
  pub so_far : done.written < length old → t.ended ≡ false → AreAllCertain width (kind_by t.standing) K (read_by t.standing) (reported_in width K t)
  pub whole : done.written < length old → t.ended ≡ true → reported_in width K t ≡ found_in width (kind_by t.standing) K (read_by t.standing)

-- the same in an automaton, as it reads the bytes
abbrev pub Reports : Automaton → List ℕ → Stream ℕ → Stream ℕ → List CMatch → List CMatch → Done → Type 0
Reports a = ReportsBy (unit_of a) (width_of a) (dictionary_of a) (folds_of a)
