-- The written form of an automaton over characters: that of its states, its outputs, its option and its filter. Cached depths are not written.
use Rattle.std.specs.Prelude.{◌≡◌, ℕ, List, ◌++◌}
use Rattle.daachorse_checker.specs.Reads.{BeginsWithAutomaton as BeginsWith, IsInHand}
use Rattle.daachorse_charwise_states.specs.PartForms.{IsAutomaton as HasParts, parts_form}
use Rattle.daachorse.specs.charwise.Automata.{Automaton, MayFold, MayHaveFilter}
-- the same automaton, where no depths are cached
pub use Rattle.daachorse_checker.specs.Reads.{without_depths}

module _ {V : Type 0} where
  abbrev pub written_form : (V → List ℕ) → Automaton V → List ℕ
  written_form value a = parts_form value a.parts a.folds a.filter

  -- an automaton in hand, whose values are of their type
  abbrev pub IsAutomaton : (V → Type 0) → Automaton V → Type 0
  IsAutomaton is_value = IsInHand (HasParts is_value) MayFold MayHaveFilter

  -- the bytes begin with the written form of an automaton
  abbrev pub BeginsWithAutomaton : (V → Type 0) → (V → List ℕ) → List ℕ → Type 0
  BeginsWithAutomaton is_value value = BeginsWith (IsAutomaton is_value) (written_form value)

  -- what was written begins so, whatever follows it and whatever its form is
  pub begins-written : {is_value : V → Type 0} {form : Automaton V → List ℕ} (a : Automaton V) (bytes rest : List ℕ) → IsAutomaton is_value a → bytes ≡ form a ++ rest → BeginsWith (IsAutomaton is_value) form bytes
  begins-written a bytes rest is begins = record { automaton = a; is_one = is; begins = (rest, begins) }
