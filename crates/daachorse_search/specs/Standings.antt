-- Where a stepper stands, apart from its automaton.
use Rattle.std.specs.Prelude.{ℕ, Option}
use Rattle.std.specs.declared.num.NonZeroU32.{NonZeroU32}
use Rattle.daachorse_core.specs.Seen.{units}
use Rattle.daachorse_search.specs.Finds.{IsFinding}
use Rattle.daachorse_search.specs.SearchViews.{all_view, standard_view}
use Rattle.daachorse_search.specs.Stepwise.{StandsAt, Stops}
use Rattle.daachorse_search.specs.Views.{AutomatonView}
use Rattle.daachorse_search.specs.Walks.{IsFresh, IsWalking, Stood}

-- where a stepper of the standard search stands: its walk, the position of the empty key's outputs, if there is one, how many bytes were consumed, and the position of the match that ends there
pub record FindStood : Type 0 where
  pub walk : Stood
  pub everywhere : Option NonZeroU32
  pub place : ℕ
  pub found : Option NonZeroU32

-- where a stepper of the search for all matches stands: the position is that of the first of the matches that end there
pub record OverlappingStood : Type 0 where
  pub walk : Stood
  pub place : ℕ
  pub found : Option NonZeroU32

module _ {V A : Type 0} (width : ℕ → ℕ) (sees : A → AutomatonView V) (a : A) where
  -- a stepper of the standard search over a stands so
  pub record IsFindStanding (s : FindStood) : Type 0 where
    pub walks : IsWalking (sees a) s.walk.seen s.walk.state s.walk.turns
    pub finds : IsFinding width (sees a) s.walk.seen s.walk.turns s.everywhere
    pub stands : StandsAt width (units s.walk.seen) s.place
    pub found : Stops (standard_view width sees) (record { automaton = a; seen = s.walk.seen; turns = s.walk.turns }) s.found

  -- a stepper of the search for all matches over a stands so
  pub record IsOverlappingStanding (s : OverlappingStood) : Type 0 where
    pub walks : IsWalking (sees a) s.walk.seen s.walk.state s.walk.turns
    pub fresh : IsFresh s.walk.seen
    pub stands : StandsAt width (units s.walk.seen) s.place
    pub found : Stops (all_view width sees) (record { automaton = a; seen = s.walk.seen; turns = s.walk.turns }) s.found
