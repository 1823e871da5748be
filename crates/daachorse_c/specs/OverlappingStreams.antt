-- A search for all matches or the longest at each end, one unit at a time, that reports them as there is room: what contracts see of it, and where it stands.
use Rattle.std.specs.Prelude.{ℕ, Bool, true, false, List, take}
use Rattle.daachorse_core.specs.Outputs.{number}
use Rattle.daachorse_core.specs.Seen.{units}
use Rattle.daachorse_model.specs.declared.Match.{Match}
use Rattle.daachorse_search.specs.Stepwise.{StandsAt}
use Rattle.daachorse_search.specs.Views.{AutomatonView}
use Rattle.daachorse_search.specs.Walks.{HasPlace, IsFresh, IsWalking, matches_from}
use Rattle.daachorse_c.specs.declared.overlapping_stream.OverlappingStreamStanding.{OverlappingStreamStanding}

-- all of the matches that end at a place, or the first alone, which is the longest
abbrev pub all_or_first : Bool → List (Match ℕ) → List (Match ℕ)
all_or_first true ms = take 1 ms
all_or_first false ms = ms

-- its automaton, whether units are folded, whether only the longest match at each end is reported, the units consumed as they were read, and the matches that end with them and were not reported
pub record Reporting (A : Type 0) : Type 0 where
  pub automaton : A
  pub folds : Bool
  pub longest_only : Bool
  pub read : List ℕ
  pub left : List (Match ℕ)

module _ {A : Type 0} (width : ℕ → ℕ) (sees : A → AutomatonView ℕ) (a : A) where
  -- a search for all matches over a stands so
  pub record IsReporting (s : OverlappingStreamStanding) : Type 0 where
    pub walks : IsWalking (sees a) s.walk.seen s.walk.state s.walk.turns
    pub fresh : IsFresh s.walk.seen
    pub place : StandsAt width (units s.walk.seen) s.place
    pub next : HasPlace width (sees a) s.walk.seen (number s.next)

  -- what it has still to report
  abbrev pub left_from : OverlappingStreamStanding → List (Match ℕ)
  left_from s = all_or_first s.longest_only (matches_from width (sees a) s.walk.seen (number s.next))
