-- Where a leftmost stream stands, apart from its automaton.
use Rattle.std.specs.Prelude.{◌≡◌, ℕ, Bool, List, length, take}
use Rattle.std.specs.VecDeque.{deque_capacity}
use Rattle.daachorse_model.specs.Leftmost.{leftmost}
use Rattle.daachorse_model.specs.Units.{size}
use Rattle.daachorse_search.specs.Views.{AutomatonView}
use Rattle.daachorse_streams.specs.declared.search.Search.{Search}
use Rattle.daachorse_streams.specs.Searching.{IsSearching, given_of, waits}
use Rattle.daachorse_streams.specs.Streamed.{LeftmostStreamed}

-- where a stream stands, apart from its automaton: what it has read, how many matches it gave, whether one may be certain that it has not given,
-- whether the haystack has ended, how many units it has room to keep, its turns, how many bytes were consumed, and its search
pub record LeftmostStood (U ALLOC : Type 0) : Type 0 where
  pub read : List ℕ
  pub given : ℕ
  pub waiting : Bool
  pub ended : Bool
  pub room : ℕ
  pub turns : ℕ
  pub place : ℕ
  pub search : Search U ALLOC

-- where a stream with this search stands, behind so many bytes
abbrev pub stood : {U ALLOC : Type 0} → Search U ALLOC → ℕ → LeftmostStood U ALLOC
stood s place = record {
  read = s.seen.since;
  given = s.seen.given;
  waiting = waits s.scan.decided s.walked (length s.ring.items);
  ended = s.ended;
  room = deque_capacity s.ring;
  turns = s.turns;
  place = place;
  search = s;
}

module _ {V A U ALLOC : Type 0} (width : ℕ → ℕ) (sees : A → AutomatonView V) (a : A) where
  -- what callers see of a stream over a
  abbrev pub streamed : Bool → Search U ALLOC → LeftmostStreamed V A
  streamed folds s = record {
    automaton = a;
    folds = folds;
    read = s.seen.since;
    given = given_of width (sees a).content s;
    waiting = waits s.scan.decided s.walked (length s.ring.items);
    ended = s.ended;
    room = deque_capacity s.ring;
    turns = s.turns;
  }

  -- what they see of it where it stands so
  abbrev pub streamed_by : Bool → LeftmostStood U ALLOC → LeftmostStreamed V A
  streamed_by folds s = record {
    automaton = a;
    folds = folds;
    read = s.read;
    given = take s.given (leftmost width (sees a).content s.read);
    waiting = s.waiting;
    ended = s.ended;
    room = s.room;
    turns = s.turns;
  }

  -- a stream over a stands so: in its search, behind so many bytes
  pub record IsLeftmostStanding (unit : U → ℕ) (s : LeftmostStood U ALLOC) : Type 0 where
    pub searches : IsSearching width (sees a) unit s.search
    pub place : s.place ≡ size width s.read
