-- The form of an element: base, check, failure link and output position, each as a number of 32 bits.
use Rattle.std.specs.Prelude.{ℕ, ◌<◌, ◌^◌, List, ◌++◌, refl}
use Rattle.std.specs.Int.{w32}
use Rattle.daachorse_serializer.specs.Forms.{Taken, IsForm, over, take_pair, number_form, take_number}
use Rattle.daachorse_serializer.specs.Laws.{law_through, pair_law, number_law}
use Rattle.daachorse_charwise_states.specs.declared.state.State.{State}
use Rattle.daachorse_charwise_states.specs.Elements.{base_in, check_in, fail_in, output_in, element}

-- each part is a number of 32 bits
abbrev pub IsElement : State → Type 0
IsElement e = (base_in e < 2 ^ 32) × (check_in e < 2 ^ 32) × (fail_in e < 2 ^ 32) × (output_in e < 2 ^ 32)

-- base and check, and the link and the position
abbrev pub fields_of : State → (ℕ × ℕ) × (ℕ × ℕ)
fields_of e = ((base_in e, check_in e), (fail_in e, output_in e))

-- the element of these parts
abbrev pub element_from : (ℕ × ℕ) × (ℕ × ℕ) → State
element_from p = element p.0.0 p.0.1 p.1.0 p.1.1

abbrev pub element_form : State → List ℕ
element_form e =
    (number_form w32 (base_in e) ++ number_form w32 (check_in e)) ++ (number_form w32 (fail_in e) ++ number_form w32 (output_in e))

-- two numbers, one after the other
abbrev pub take_two : List ℕ → Taken (ℕ × ℕ)
take_two bytes = take_pair (take_number w32) (take_number w32) bytes

abbrev pub take_element : List ℕ → Taken State
take_element bytes = over element_from (take_pair take_two take_two bytes)

-- An element is read back from its form.
pub element_law : IsForm IsElement element_form take_element (λ _. 16)
element_law =
    law_through element_from fields_of _ (λ e h. ((h.0, h.1), (h.2, h.3))) (λ e h. refl)
    (pair_law (pair_law (number_law w32) (number_law w32)) (pair_law (number_law w32) (number_law w32)))
