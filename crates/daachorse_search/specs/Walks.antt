-- A walk through an automaton: where it stands after the units that it read.
use Rattle.std.specs.Prelude.{◌≡◌, ℕ, ◌+◌, ◌*◌, ◌≤◌, List, [], ◌∷◌, ◌++◌, length, count_by}
use Rattle.daachorse_core.specs.Seen.{SeenUnits, units}
use Rattle.daachorse_model.specs.declared.Match.{Match}
use Rattle.daachorse_model.specs.Units.{size}
use Rattle.daachorse_model.specs.Dictionary.{Dictionary}
use Rattle.daachorse_model.specs.Matches.{ending_at}
use Rattle.daachorse_model.specs.Prefixes.{IsLong}
use Rattle.daachorse_model.specs.Outputs.{AllWithin, matches_of_outputs}
use Rattle.daachorse_search.specs.Views.{AutomatonView, IsStandard}

-- what callers see of a walk: the automaton, what was seen, and the turns taken
pub record Walked (A : Type 0) : Type 0 where
  pub automaton : A
  pub seen : SeenUnits
  pub turns : ℕ

-- where a walk stands, without the automaton: the state, the turns taken, and what was seen
pub record Stood : Type 0 where
  pub state : ℕ
  pub turns : ℕ
  pub seen : SeenUnits

-- more units were read since, and looked up
abbrev pub read_on : SeenUnits → List ℕ → SeenUnits
read_on s more = record s { since = s.since ++ more; looked = s.looked ++ more }

-- one more unit was passed with no look, and the walk began again at the root behind it
abbrev pub skip_on : SeenUnits → ℕ → SeenUnits
skip_on s u = record s { before = units s ++ u ∷ []; since = [] }

-- the walk began again at the root
abbrev pub begin_on : SeenUnits → SeenUnits
begin_on s = record s { before = units s; since = [] }

module _ {V : Type 0} (width : ℕ → ℕ) (K : Dictionary V) where
  -- the matches that end with the text t, and start in it, where `before` was read before it
  abbrev pub matches_since : List ℕ → List ℕ → List (Match V)
  matches_since before t = ending_at width K (size width before) (size width (before ++ t)) t

-- the walk began at the root once, and looked up all that it read
pub record IsFresh (seen : SeenUnits) : Type 0 where
  pub fresh : seen.before ≡ []
  pub all : seen.looked ≡ seen.since

module _ {V : Type 0} (view : AutomatonView V) where
  -- there are outputs at the position, and they may end at the place
  pub record MayEndAt (place position : ℕ) : Type 0 where
    pub is_position : view.has_output position
    pub fits : AllWithin place (view.outputs position)

module _ {V : Type 0} (width : ℕ → ℕ) (view : AutomatonView V) where
  -- the outputs from the position on, as matches that end with the units read
  abbrev pub matches_from : SeenUnits → ℕ → List (Match V)
  matches_from seen position = matches_of_outputs (size width (units seen)) (view.outputs position)

  -- there are outputs at the position, and they may be given here
  pub record HasPlace (seen : SeenUnits) (position : ℕ) : Type 0 where
    pub place : view.has_output position
    pub fits : AllWithin (size width (units seen)) (view.outputs position)

  -- The outputs at the position are the matches that end where the walk stands.
  pub record HasOutputs (seen : SeenUnits) (position : ℕ) : Type 0 where
    pub place : view.has_output position
    pub few : length (view.outputs position) ≤ view.most_outputs
    pub fits : AllWithin (size width (units seen)) (view.outputs position)
    pub matches : matches_since width view.content seen.before seen.since ≡ matches_from seen position

-- The walk stands at the state of the units read since it last began at the root, with these bounds on its turns.
module _ {V : Type 0} (view : AutomatonView V) where
  pub record IsWalking (seen : SeenUnits) (state turns : ℕ) : Type 0 where
    pub alive : IsStandard view
    pub at_state : view.reached state
    pub long : IsLong view.content seen.since (view.text state)
    pub most : turns + length (view.text state) ≤ 2 * length (units seen)
    pub single : view.ends_at_once → turns ≤ length (units seen)
    pub least : count_by view.has_label seen.looked ≤ turns
