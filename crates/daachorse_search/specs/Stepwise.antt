-- A search that goes one unit at a time: what contracts say of its walk.
use Rattle.std.specs.Prelude.{◌≡◌, ℕ, ◌+◌, ◌*◌, ◌<◌, ◌≤◌, Bool, false, cond, List, [], ◌≢◌, length, count_by, Option, IfSome}
use Rattle.std.specs.declared.num.NonZeroU32.{NonZeroU32}
use Rattle.daachorse_core.specs.Outputs.{number}
use Rattle.daachorse_model.specs.declared.Match.{Match}
use Rattle.daachorse_model.specs.Units.{size}
use Rattle.daachorse_model.specs.Dictionary.{Dictionary}
use Rattle.daachorse_model.specs.Matches.{IsSinceMatch}
use Rattle.daachorse_model.specs.Prefixes.{IsLong, is_key}
use Rattle.daachorse_search.specs.Views.{AutomatonView}

-- the place, in bytes, is that after the units read
abbrev pub StandsAt : (ℕ → ℕ) → List ℕ → ℕ → Type 0
StandsAt width read place = place ≡ size width read

-- what callers see of a stepper: the automaton, the depths of its states if they are kept, whether units are folded, the units consumed as they were read, the turns taken, and the number of matches given: those that end where it stood, at its beginning and after each unit
pub record Stepped (A : Type 0) : Type 0 where
  pub automaton : A
  pub depths : List ℕ
  pub folds : Bool
  pub read : List ℕ
  pub turns : ℕ
  pub given : ℕ

-- what callers see of a walk W through an automaton A
pub record StepView (V A W : Type 0) : Type 1 where
  pub automaton : W → A
  -- the dictionary of the automaton
  pub content : A → Dictionary V
  -- the depths of its states, or none if none are kept
  pub has_depths : A → List ℕ → Type 0
  -- the units that were read
  pub read : W → List ℕ
  -- the number of looks at a state
  pub turns : W → ℕ
  -- what the search reports at the end of a text
  pub found : A → List ℕ → List (Match V)
  -- the most that it reports at one end
  pub most_found : A → ℕ
  -- the positions of outputs, which count from 1; 0 is one of them, and stands for none
  pub has_output : W → ℕ → Type 0
  -- what is reported from a position on, where the walk stands
  pub given_from : W → ℕ → List (Match V)
  -- something is found at every boundary, with no look
  pub everywhere : W → Type 0
  -- reading such a unit takes at least one look
  pub looks_at : A → ℕ → Bool
  -- reading a unit takes at most one look
  pub ends_at_once : A → Type 0
  -- the bounds of the turns for what was read
  pub bounds : A → List ℕ → ℕ → Type 0

module _ {V A W : Type 0} (view : StepView V A W) where
  -- the position of the first output, or `None`, where the walk stands
  pub record Stops (walk : W) (position : Option NonZeroU32) : Type 0 where
    pub place : view.has_output walk (number position)
    pub matches : view.found (view.automaton walk) (view.read walk) ≡ view.given_from walk (number position)
    pub few : length (view.given_from walk (number position)) ≤ view.most_found (view.automaton walk)
    pub some : IfSome position (λ p. 0 < length (view.given_from walk p.value))

module _ {V : Type 0} (view : AutomatonView V) where
  -- The turns of a search that begins at the root once: at most twice the units read, less the length of its state's text, at most the units read where each look ends its step, and at least the units read that some key has.
  pub record AreBounded (read : List ℕ) (turns : ℕ) : Type 0 where
    pub most : turns ≤ 2 * length read
    pub deep : (s : List ℕ) → IsLong view.content read s → turns + length s ≤ 2 * length read
    pub single : view.ends_at_once → turns ≤ length read
    pub least : count_by view.has_label read ≤ turns

  -- a search that looks up nothing where some key is empty looks at each unit that some key has, where none is
  abbrev pub looks_unless_empty : ℕ → Bool
  looks_unless_empty u = cond (is_key view.content []) false (view.has_label u)

module _ {V : Type 0} (width : ℕ → ℕ) (view : AutomatonView V) where
  -- The same for a search that begins again at the root behind each match. With an empty key it takes no turn.
  pub record AreBoundedSince (read : List ℕ) (turns : ℕ) : Type 0 where
    pub most : turns ≤ 2 * length read
    pub deep : (since s : List ℕ) → IsSinceMatch width view.content read since → IsLong view.content since s → turns + length s ≤ 2 * length read
    pub single : view.ends_at_once → turns ≤ length read
    pub least : view.content [] ≡ [] → count_by view.has_label read ≤ turns
    pub idle : view.content [] ≢ [] → turns ≡ 0
