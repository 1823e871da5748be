-- A leftmost search that is given its haystack unit by unit: where it stands between two calls.
use Rattle.std.specs.Prelude.{◌≡◌, ℕ, ◌+◌, ◌^◌, ◌<◌, ◌≤◌, Bool, true, false, cond, nat_lt, List, [], ◌∷◌, ◌++◌, length, map, take, None}
use Rattle.std.specs.VecDeque.{deque_capacity}
use Rattle.daachorse_model.specs.declared.Match.{Match}
use Rattle.daachorse_model.specs.Units.{size}
use Rattle.daachorse_model.specs.Dictionary.{Dictionary}
use Rattle.daachorse_model.specs.Leftmost.{leftmost, leftmost_from}
use Rattle.daachorse_search.specs.LeftmostSearches.{IsWithin}
use Rattle.daachorse_search.specs.Views.{AutomatonView, IsLeftmostView}
use Rattle.daachorse_streams.specs.declared.scan.Scan.{Scan}
use Rattle.daachorse_streams.specs.declared.search.Search.{Search}
use Rattle.daachorse_streams.specs.Streamed.{IsRoomFor, LooksAtKeys}
use Rattle.daachorse_streams.specs.Scans.{IsScan, depth}

-- a match may be certain: the best of the scan is decided, or units are left to read
abbrev pub waits : Bool → ℕ → ℕ → Bool
waits decided walked count = cond decided true (nat_lt walked count)

-- the unit that the search passes over, if there is one
abbrev pub passed_over : Bool → List ℕ → List ℕ
passed_over false ahead = []
passed_over true [] = []
passed_over true (u ∷ ahead) = u ∷ []

-- the scan stands at the root, and nothing is pending
abbrev pub IsAtRoot : {V U ALLOC : Type 0} → AutomatonView V → Search U ALLOC → Type 0
IsAtRoot view s = (s.skips ≡ false) × (s.scan.best ≡ None) × (view.text s.scan.state ≡ [])

module _ {V : Type 0} (width : ℕ → ℕ) (view : AutomatonView V) where
  -- no scan has begun yet: one unit is passed over first
  pub record IsIdle (from : ℕ) (w : List ℕ) (scan : Scan) (behind : List ℕ) : Type 0 where
    pub none_read : w ≡ []
    pub none_behind : behind ≡ []
    pub no_best : scan.best ≡ None
    pub open_yet : scan.decided ≡ false
    pub place : scan.place ≡ from
    pub root : view.text scan.state ≡ []

  abbrev pub Stands : Bool → ℕ → List ℕ → Scan → List ℕ → Type 0
  Stands true from w scan behind = IsIdle from w scan behind
  Stands false from w scan behind = IsScan width view from w scan behind

  module _ {U ALLOC : Type 0} (unit : U → ℕ) where
    -- Of what was read, the scan began behind `passed`, and read w; `ahead` is left to read. The matches in `gave` were given, and the rest are those that a search from there gives, however the haystack goes on.
    pub record IsSearching (s : Search U ALLOC) : Type 0 where
      pub kind : IsLeftmostView view
      pub passed : List ℕ
      pub w : List ℕ
      pub behind : List ℕ
      pub ahead : List ℕ
      pub parts : s.seen.since ≡ passed ++ (w ++ ahead)
      pub ring : map unit s.ring.items ≡ behind ++ ahead
      pub walked : s.walked ≡ length behind
      pub stands : Stands s.skips (size width passed) w s.scan behind
      pub gave : List (Match V)
      pub counted : length gave ≡ s.seen.given
      pub left : (d : List ℕ) → (s.ended ≡ true → d ≡ []) → leftmost width view.content (s.seen.since ++ d) ≡ gave ++ leftmost_from width view.content (size width passed) (cond s.skips 1 0) s.after ((w ++ ahead) ++ d)
      pub most : IsWithin width view.content (length passed + length w + length (passed_over s.skips ahead)) s.after (s.turns + depth view s.scan) s.seen.given
      pub least : (d : List ℕ) → (s.ended ≡ true → d ≡ [])
          → LooksAtKeys view (s.seen.since ++ d) (passed ++ (w ++ passed_over s.skips (ahead ++ d))) s.turns
      pub room : IsRoomFor width view.content (deque_capacity s.ring)
      pub fits : size width s.seen.since < 2 ^ 64

-- the units in `front` are left to read, behind those that were
pub record Keeps {U ALLOC : Type 0} (unit : U → ℕ) (s : Search U ALLOC) (front : List ℕ) (t : Search U ALLOC) : Type 0 where
  pub ring : map unit t.ring.items ≡ map unit s.ring.items ++ front
  pub capacity : deque_capacity t.ring ≡ deque_capacity s.ring
  pub read : t.seen.since ≡ s.seen.since ++ front
  pub given : t.seen.given ≡ s.seen.given
  pub same : t ≡ record s { ring = t.ring; seen = t.seen }

-- The units in `over` count as read. From each of them to the end of `tail`, which comes next, there are at least as many bytes as the ring has room for units.
pub record PassesOver {U ALLOC : Type 0} (width : ℕ → ℕ) (s : Search U ALLOC) (over tail : List ℕ) (t : Search U ALLOC) : Type 0 where
  pub far : (a : List ℕ) (u : ℕ) (b : List ℕ) → over ≡ a ++ u ∷ b → deque_capacity s.ring ≤ size width ((u ∷ b) ++ tail)
  pub read : t.seen.since ≡ s.seen.since ++ over
  pub given : t.seen.given ≡ s.seen.given
  pub same : t ≡ record s { scan = record s.scan { place = s.scan.place + size width over }; seen = t.seen }

-- the units in `front` were taken: the first were passed over, and the last are left to read
pub record TakesFront {U ALLOC : Type 0} (width : ℕ → ℕ) (unit : U → ℕ) (s : Search U ALLOC) (front : List ℕ) (t : Search U ALLOC) : Type 0 where
  pub over : List ℕ
  pub tail : List ℕ
  pub parts : front ≡ over ++ tail
  pub between : Search U ALLOC
  pub passes : PassesOver width s over tail between
  pub keeps : Keeps unit between tail t

module _ {U ALLOC : Type 0} where
  -- what reading on leaves as it is
  abbrev pub WalksOn : Search U ALLOC → Search U ALLOC → Type 0
  WalksOn old new = (new.seen ≡ old.seen) × (new.ended ≡ old.ended) × (new.after ≡ old.after)

  -- the matches given
  abbrev pub given_of : {V : Type 0} → (ℕ → ℕ) → Dictionary V → Search U ALLOC → List (Match V)
  given_of width K s = take s.seen.given (leftmost width K s.seen.since)

  -- what was read, and whether it has ended, stays
  abbrev pub ReadsTheSame : Search U ALLOC → Search U ALLOC → Type 0
  ReadsTheSame old new = (new.seen.since ≡ old.seen.since) × (new.ended ≡ old.ended) × (new.turns ≡ old.turns)
