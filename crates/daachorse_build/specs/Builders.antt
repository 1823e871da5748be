-- What contracts see of a builder.
use Rattle.std.specs.Prelude.{◌≡◌, ℕ, List, length}
use Rattle.std.specs.declared.cmp.Ordering.{Ordering}
use Rattle.daachorse_model.specs.declared.MatchKind.{MatchKind}
use Rattle.daachorse_model.specs.Dictionary.{kept_registrations}
use Rattle.daachorse_core.specs.declared.outputs.Output.{Output}
use Rattle.daachorse_build.specs.declared.nfa_builder.NfaBuilderState.{NfaBuilderState}
use Rattle.daachorse_build.specs.Holds.{Holds, in_units}

-- A builder: its states and outputs, the number of patterns that are kept, and the kind of matches.
pub record Builder (L V A : Type 0) : Type 0 where
  -- by their ids
  pub states : List (NfaBuilderState L V A)
  -- position 1 is the first
  pub outputs : List (Output V)
  pub count : ℕ
  pub kind : MatchKind

module _ {L V A : Type 0} where
  abbrev pub states_of : Builder L V A → List (NfaBuilderState L V A)
  states_of b = b.states

  abbrev pub outputs_of : Builder L V A → List (Output V)
  outputs_of b = b.outputs

  abbrev pub count_of : Builder L V A → ℕ
  count_of b = b.count

  abbrev pub kind_of : Builder L V A → MatchKind
  kind_of b = b.kind

  -- just these patterns were registered, in this order
  pub record Registered (cmp : L → L → Ordering) (unit : L → ℕ) (width : ℕ → ℕ) (b : Builder L V A) (rs : List (List L × V)) : Type 0 where
    pub holds : Holds cmp unit width (kind_of b) (states_of b) rs
    pub count : count_of b ≡ length (kept_registrations (kind_of b) (in_units unit rs))
