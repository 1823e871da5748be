-- What the forms of both automata end with: the outputs as a list, how it searches, the number of states, and the filter, if there is one.
use Rattle.std.specs.Prelude.{ℕ, ◌+◌, ◌*◌, ◌<◌, ◌≤◌, ◌^◌, ◌⊎◌, List, ◌++◌, length, All, Option, IfSome}
use Rattle.std.specs.Int.{w32}
use Rattle.std.proofs.Common.{arith}
use Rattle.daachorse_core.specs.declared.errors.DaachorseError.{DaachorseError}
use Rattle.daachorse_core.specs.declared.outputs.Output.{Output}
use Rattle.daachorse_serializer.specs.declared.mode.SearchMode.{SearchMode}
use Rattle.daachorse_serializer.specs.Forms.{Taken, IsAfter, IsForm, IsOfList, IsOfPayload, IsOfValue, take_pair, number_form, take_number, option_form, option_most, take_option, list_form, take_list}
use Rattle.daachorse_serializer.specs.Laws.{list_law, mode_law, number_law, option_vec_law, output_law, pair_law}
use Rattle.daachorse_serializer.specs.Modes.{mode_form, take_mode}
use Rattle.daachorse_serializer.specs.Outputs.{IsOutput, output_form, take_output}

-- the outputs, how the automaton searches, the number of states, and the filter
abbrev pub Ending : Type 0 → Type 0 → Type 0
Ending V F = List (Output V) × (SearchMode × (ℕ × Option F))

-- a number of 32 bits counts the outputs, and the filter may be written
abbrev pub CanWriteEnding : {V F : Type 0} → (F → Type 0) → Ending V F → Type 0
CanWriteEnding can_write e = (length e.0 < 2 ^ 32) × IfSome e.1.1.1 can_write

-- what stands in each part is of its type
abbrev pub IsEnding : {V F : Type 0} → (V → Type 0) → (F → Type 0) → Ending V F → Type 0
IsEnding is_value is_filter e = All (IsOutput is_value) e.0 × (e.1.1.0 < 2 ^ 32) × IfSome e.1.1.1 is_filter

module _ {V F : Type 0} where
  abbrev pub ending_form : (V → List ℕ) → (F → List ℕ) → Ending V F → List ℕ
  ending_form value filter e =
      list_form (output_form value) e.0 ++ (mode_form e.1.0 ++ (number_form w32 e.1.1.0 ++ option_form filter e.1.1.1))

  abbrev pub take_ending : (List ℕ → Taken V) → (List ℕ → Taken F) → List ℕ → Taken (Ending V F)
  take_ending value filter =
      take_pair (take_list (take_output value)) (take_pair take_mode (take_pair (take_number w32) (take_option filter)))

  -- how long the form with these outputs and this filter is at most, where a value takes at most n bytes
  abbrev pub ending_most : ℕ → (F → ℕ) → List (Output V) → Option F → ℕ
  ending_most n most outputs filter = (n + 8) * length outputs + 4 + 5 + option_most most filter

-- errors of its own by which a read of an ending refuses bytes: those of a value of some output, or of the filter
abbrev pub IsOfEnding : {V : Type 0} → (List ℕ → Taken V) → (List ℕ → DaachorseError → Type 0) → (List ℕ → DaachorseError → Type 0) → List ℕ → DaachorseError → Type 0
IsOfEnding take_value own own_of_filter bytes e =
    IsOfList (take_output take_value) (IsOfValue take_value own) bytes e
    ⊎ IsAfter (take_list (take_output take_value)) (λ _. IsAfter take_mode (λ _. IsAfter (take_number w32) (λ _. IsOfPayload own_of_filter))) bytes e

-- the law of a form, where less is promised
law_for : {X : Type 0} {P Q : X → Type 0} {form : X → List ℕ} {taken : List ℕ → Taken X} {most : X → ℕ} (more : X → ℕ)
    → ((x : X) → Q x → P x) → ((x : X) → most x ≤ more x) → IsForm P form taken most → IsForm Q form taken more
law_for more of below law = record {
  reads_back = λ x rest h. law.reads_back x rest (of x h);
  leaves_end = law.leaves_end;
  fits = λ x h. (let fits = law.fits x (of x h) in let under = below x in omega arith);
}

-- the law of an ending, from those of a value and of a filter
pub ending_law : {V F : Type 0} {P : V → Type 0} {value : V → List ℕ} {take_value : List ℕ → Taken V} {n : ℕ}
    → {C Q : F → Type 0} {filter : F → List ℕ} {take_filter : List ℕ → Taken F} {most : F → ℕ}
    → IsForm P value take_value (λ _. n) → IsForm (λ f. C f × Q f) filter take_filter most
    → IsForm (λ e. CanWriteEnding C e × IsEnding P Q e) (ending_form value filter) (take_ending take_value take_filter)
    (λ e. ending_most n most e.0 e.1.1.1)
ending_law {n = n} {most = most} value_law filter_law =
    law_for (λ e. ending_most n most e.0 e.1.1.1) (λ e h. ((h.0.0, h.1.0), (tt, (h.1.1, (h.0.1, h.1.2))))) (λ e. omega arith)
    (pair_law (list_law (output_law value_law)) (pair_law mode_law (pair_law (number_law w32) (option_vec_law filter_law))))
