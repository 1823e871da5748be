-- The parts that a view borrows, and those that are for the searches of a view.
use Rattle.std.specs.Prelude.{◌≡◌, ℕ, Bool, List, Option, slice_index_or}
use Rattle.std.specs.declared.num.NonZeroU32.{NonZeroU32}
use Rattle.daachorse_core.specs.Outputs.{number}
use Rattle.daachorse_core.specs.declared.outputs.Output.{Output}
use Rattle.daachorse_model.specs.declared.MatchKind.{MatchKind}
use Rattle.daachorse_model.specs.Kinds.{is_leftmost}
use Rattle.daachorse_charwise_states.specs.Codings.{Coding}
use Rattle.daachorse_charwise_states.specs.declared.state.State.{State}
use Rattle.daachorse_charwise_states.specs.Elements.{output_in, vacant}
use Rattle.daachorse_charwise_states.specs.Parts.{Parts}
use Rattle.daachorse_charwise_states.specs.Valid.{IsValid}

abbrev pub parts_of : {V : Type 0} → MatchKind → List State → Coding → List (Output V) → ℕ → Parts V
parts_of kind states coding outputs n =
    record { kind = kind; states = states; coding = coding; outputs = outputs; num_states = n }

abbrev pub coding_with : List ℕ → ℕ → Coding
coding_with table size = record { table = table; alphabet_size = size }

-- the position of the first output of the element that stands first
abbrev pub IsRootOutput : List State → Option NonZeroU32 → Type 0
IsRootOutput states position = number position ≡ output_in (slice_index_or states 0 vacant)

-- a valid automaton, for leftmost searches or for standard ones
pub record IsFor {V : Type 0} (leftmost : Bool) (p : Parts V) : Type 0 where
  pub valid : IsValid p
  pub kind : is_leftmost p.kind ≡ leftmost
