-- The parts of an automaton in hand are read back from their form, since each of their lists can be counted.
use Rattle.std.proofs.Common.{ℕ, List}
use Rattle.daachorse_checker.proofs.ReadLaws.{law_where}
use Rattle.daachorse_serializer.specs.Forms.{IsForm, Taken}
use Rattle.daachorse_charwise_states.specs.Parts.{Parts}
use Rattle.daachorse_charwise_states.specs.PartForms.{AreCounted, IsAutomaton, parts_form, parts_law, parts_most, take_parts}
use Rattle.daachorse_charwise_states.specs.Valid.{IsValid}

-- the lists of valid parts can be counted
valid-counted : {V : Type 0} (p : Parts V) → IsValid p → AreCounted p
valid-counted p valid = record { states = valid.few.elements; outputs = valid.few.outputs }

-- the parts of an automaton in hand are read back from their form, whatever follows it
pub automaton_law : {V : Type 0} {P : V → Type 0} {value : V → List ℕ} {take_value : List ℕ → Taken V} {n : ℕ} → IsForm P value take_value (λ _. n)
    → IsForm (λ w. IsAutomaton P w.0 w.1.1) (λ w. parts_form value w.0 w.1.0 w.1.1) (take_parts take_value) (λ w. parts_most n w.0 w.1.1)
automaton_law law = law_where (λ w a. (valid-counted w.0 a.valid, (a.numbers, a.filtered))) (parts_law law)
