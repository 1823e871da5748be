-- What a search sees of an automaton: its states and their texts, its links, and its outputs. The words below say of one view what the contracts ask of it.
use Rattle.std.specs.Prelude.{◌≡◌, ◌↔◌, ℕ, Bool, IsTrue, List, [], Option, Some, slice_get}
use Rattle.std.specs.declared.num.NonZeroU32.{NonZeroU32}
use Rattle.daachorse_core.specs.declared.turns.Look.{Look}
use Rattle.daachorse_core.specs.Depths.{AreDepths}
use Rattle.daachorse_core.specs.Looks.{IsFirstOutput, LookGives, StepEnds, TellsOutput}
use Rattle.daachorse_model.specs.Best.{IsLeftmost}
use Rattle.daachorse_model.specs.Dictionary.{Dictionary}
use Rattle.daachorse_model.specs.Prefixes.{HasChild}

pub record AutomatonView (V : Type 0) : Type 1 where
  -- the dictionary: the values of each text, in order
  pub content : Dictionary V
  -- the states that can be reached
  pub reached : ℕ → Type 0
  -- the text of a state
  pub text : ℕ → List ℕ
  -- the texts whose link is dead: none of a standard automaton
  pub dead : List ℕ → Type 0
  -- whether a unit has a label; each unit of a key has one
  pub has_label : ℕ → Bool
  -- the positions of outputs, which count from 1; 0 is one of them, and stands for none
  pub has_output : ℕ → Type 0
  -- the outputs from a position on, each a value and the size of its key
  pub outputs : ℕ → List (V × ℕ)
  -- no state has more outputs
  pub most_outputs : ℕ
  -- each look ends its step, so that no link is followed; where that is not so, some may not
  pub ends_at_once : Type 0

module _ {V : Type 0} (view : AutomatonView V) where
  -- no link is dead
  abbrev pub IsStandard : Type 0
  IsStandard = (w : List ℕ) → ¬ view.dead w

  -- the dead texts are those of a leftmost automaton
  abbrev pub IsLeftmostView : Type 0
  IsLeftmostView = IsLeftmost view.content view.dead

  -- the step from a state by a unit ends at another
  abbrev pub Steps : ℕ → ℕ → ℕ → Type 0
  Steps state unit next = StepEnds view.content view.dead (view.text state) unit (view.text next)

  -- what a look at a state gives for a unit
  abbrev pub SeesLook : ℕ → ℕ → Look → Type 0
  SeesLook state unit look = LookGives view.content view.reached view.text view.dead (view.text state) unit look

  -- no depths are kept, or those of all states that can be reached
  abbrev pub HasDepths : List ℕ → Type 0
  HasDepths depths = AreDepths view.reached view.text depths

  -- the marks say of each state that can be reached whether its text has a child
  abbrev pub HasMarks : List Bool → Type 0
  HasMarks marks = (state : ℕ) → view.reached state → (mark : Bool) × (slice_get marks state ≡ Some mark) × (IsTrue mark ↔ HasChild view.content (view.text state))

  -- from position 0 on there is no output
  abbrev pub HasNone : Type 0
  HasNone = view.has_output 0 × (view.outputs 0 ≡ [])

module _ {V : Type 0} (width : ℕ → ℕ) (view : AutomatonView V) where
  -- the position is that of the first output of a state
  abbrev pub HasFirst : ℕ → Option NonZeroU32 → Type 0
  HasFirst state position = IsFirstOutput width view.content view.dead view.has_output view.outputs view.most_outputs (view.text state) position

  -- where a look ends the step, it tells the first output of the state there
  abbrev pub TellsFirst : Look → Type 0
  TellsFirst look = TellsOutput width view.content view.dead view.has_output view.outputs view.most_outputs view.text look
