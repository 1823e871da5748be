-- The written form of an automaton over characters: its parts, whether it finds ASCII letters without regard to case, and
-- its filter, if it has one. And what bytes give: nothing, or parts, that option, a filter that there may be, and the bytes
-- behind them.
use Rattle.std.specs.Prelude.{ℕ, Bool, ◌+◌, ◌*◌, ◌<◌, ◌^◌, List, ◌++◌, length, All, Option, Some, None, IfSome, refl}
use Rattle.daachorse_core.specs.declared.errors.DaachorseError.{DaachorseError}
use Rattle.daachorse_checker.specs.Reads.{AreInHand, BeginsWithParts}
use Rattle.daachorse_charwise_states.specs.Codings.{Coding}
use Rattle.daachorse_charwise_states.specs.CodingForms.{AreNumbers as AreCodes, coding_form, coding_law, coding_len, take_coding}
use Rattle.daachorse_prefilter.specs.Filters.{Filter, IsFilter}
use Rattle.daachorse_prefilter.specs.FilterForms.{filter_form, filter_law, take_filter}
use Rattle.daachorse_serializer.specs.Endings.{Ending, ending_form, ending_law, ending_most, take_ending}
use Rattle.daachorse_serializer.specs.Forms.{IsAfter, IsForm, IsOfList, IsOfValue, Taken, list_form, over, take_list, take_pair}
use Rattle.daachorse_serializer.specs.Laws.{law_through, list_law, pair_law}
use Rattle.daachorse_serializer.specs.Outputs.{IsOutput, take_output}
use Rattle.daachorse_serializer.specs.declared.mode.SearchMode.{SearchMode}
use Rattle.daachorse_charwise_states.specs.declared.state.State.{State}
use Rattle.daachorse_charwise_states.specs.declared.states.form.Lists.{Lists}
use Rattle.daachorse_charwise_states.specs.Parts.{Parts}
use Rattle.daachorse_charwise_states.specs.Valid.{IsValid}
use Rattle.daachorse_charwise_states.specs.Written.{IsElement, element_form, element_law, take_element}

-- the elements, the codes, and what the form ends with
abbrev pub Row : Type 0 → Type 0
Row V = List State × (Coding × Ending V Filter)

-- how the automaton searches
abbrev pub mode_of : {V : Type 0} → Parts V → Bool → SearchMode
mode_of p folds = record { kind = p.kind; folds = folds }

abbrev pub row_of : {V : Type 0} → Parts V × (Bool × Option Filter) → Row V
row_of w = (w.0.states, (w.0.coding, (w.0.outputs, (mode_of w.0 w.1.0, (w.0.num_states, w.1.1)))))

abbrev pub of_row : {V : Type 0} → Row V → Parts V × (Bool × Option Filter)
of_row r =
    let parts : Parts _ = record { kind = r.1.1.1.0.kind; states = r.0; coding = r.1.0; outputs = r.1.1.0; num_states = r.1.1.1.1.0 } in
    (parts, (r.1.1.1.0.folds, r.1.1.1.1.1))

-- what lists that were read are
abbrev pub parts_in : {V A : Type 0} → Lists V A → Parts V × (Bool × Option Filter)
parts_in l = of_row (l.states.items, (l.mapper, (l.ending.outputs.items, (l.ending.mode, (l.ending.num_states, l.ending.filter)))))

module _ {V : Type 0} where
  unfoldable pub parts_form : (V → List ℕ) → Parts V → Bool → Option Filter → List ℕ
  parts_form value p folds filter =
      list_form element_form p.states ++ (coding_form p.coding ++ ending_form value filter_form (p.outputs, (mode_of p folds, (p.num_states, filter))))

  unfoldable pub take_parts : (List ℕ → Taken V) → List ℕ → Taken (Parts V × (Bool × Option Filter))
  take_parts take_value bytes =
      over of_row (take_pair (take_list take_element) (take_pair take_coding (take_ending take_value take_filter)) bytes)

  -- errors of its own by which a read refuses bytes: the elements and the codes are taken, and then some outputs, and of
  -- what is left the read of a value takes nothing and returns the error
  abbrev pub IsOfParts : (List ℕ → Taken V) → (List ℕ → DaachorseError → Type 0) → List ℕ → DaachorseError → Type 0
  IsOfParts take_value own =
      IsAfter (take_list take_element) (λ _. IsAfter take_coding (λ _. IsOfList (take_output take_value) (IsOfValue take_value own)))

  -- a number of 32 bits counts the elements, and one the outputs
  pub record AreCounted (p : Parts V) : Type 0 where
    pub states : length p.states < 2 ^ 32
    pub outputs : length p.outputs < 2 ^ 32

  -- each number is one of 32 bits, and each value is of its type
  pub record AreNumbers (is_value : V → Type 0) (p : Parts V) : Type 0 where
    pub states : All IsElement p.states
    pub coding : AreCodes p.coding
    pub outputs : All (IsOutput is_value) p.outputs
    pub num_states : p.num_states < 2 ^ 32

  -- the parts of an automaton in hand, and its filter
  abbrev pub IsAutomaton : (V → Type 0) → Parts V → Option Filter → Type 0
  IsAutomaton is_value = AreInHand IsValid (AreNumbers is_value) IsFilter

  -- the bytes begin with the written form of an automaton
  abbrev pub BeginsWithAutomaton : (V → Type 0) → (V → List ℕ) → List ℕ → Type 0
  BeginsWithAutomaton is_value value = BeginsWithParts (IsAutomaton is_value) (parts_form value)

  -- how long the form is at most, where a value takes at most n bytes
  abbrev pub parts_most : ℕ → Parts V → Option Filter → ℕ
  parts_most n p filter = (16 * length p.states + 4) + (coding_len p.coding + ending_most n (λ _. 65537) p.outputs filter)

-- Parts, the option and the filter are read back from their form, whatever follows it.
pub parts_law : {V : Type 0} {P : V → Type 0} {value : V → List ℕ} {take_value : List ℕ → Taken V} {n : ℕ}
    → IsForm P value take_value (λ _. n)
    → IsForm (λ w. AreCounted w.0 × (AreNumbers P w.0 × IfSome w.1.1 IsFilter)) (λ w. parts_form value w.0 w.1.0 w.1.1) (take_parts take_value) (λ w. parts_most n w.0 w.1.1)
unfolding parts_form take_parts
parts_law {P = P} value_law =
    law_through of_row row_of (λ w. AreCounted w.0 × (AreNumbers P w.0 × IfSome w.1.1 IsFilter))
    (λ w h. ((h.0.states, h.1.0.states), ((tt, h.1.0.coding), ((h.0.outputs, both w.1.1), (h.1.0.outputs, h.1.0.num_states, h.1.1)))))
    (λ w h. refl)
    (pair_law (list_law element_law) (pair_law coding_law (ending_law value_law filter_law)))
  where
    both : (v : Option Filter) → IfSome v (λ f. Unit {0})
    both None = tt
    both (Some f) = tt
