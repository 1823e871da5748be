-- Where the standard search stands.
use Rattle.std.specs.Prelude.{◌≡◌, ◌≢◌, ℕ, [], Option, Some, None}
use Rattle.std.specs.declared.num.NonZeroU32.{NonZeroU32}
use Rattle.daachorse_core.specs.Seen.{SeenUnits, units}
use Rattle.daachorse_model.specs.Outputs.{own_outputs}
use Rattle.daachorse_model.specs.Resumed.{IsResumed}
use Rattle.daachorse_search.specs.Views.{AutomatonView}

module _ {V : Type 0} (width : ℕ → ℕ) (view : AutomatonView V) where
  -- no key is empty: the walk began again behind the last match, and looked up all that it read
  pub record IsResuming (seen : SeenUnits) : Type 0 where
    pub resumed : IsResumed width view.content seen.before seen.since
    pub all : seen.looked ≡ units seen

  -- some key is empty: the walk stays at the root with no turn, and the outputs at the position are the empty key's
  pub record IsEverywhere (seen : SeenUnits) (turns position : ℕ) : Type 0 where
    pub keyed : view.content [] ≢ []
    pub stays : seen.since ≡ []
    pub idle : turns ≡ 0
    pub place : view.has_output position
    pub own : view.outputs position ≡ own_outputs width view.content []

  abbrev pub IsFinding : SeenUnits → ℕ → Option NonZeroU32 → Type 0
  IsFinding seen turns None = IsResuming seen
  IsFinding seen turns (Some position) = IsEverywhere seen turns position.value
