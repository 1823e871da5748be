-- The parts of an automaton in hand are read back from their form, since each of their lists can be counted.
use Rattle.std.proofs.Common.{ℕ, ◌<◌, ◌^◌, Bool, true, false, List, length, ap, cond, arith}
use Rattle.daachorse_model.specs.Kinds.{is_leftmost}
use Rattle.daachorse_checker.proofs.ReadLaws.{law_where}
use Rattle.daachorse_serializer.specs.Forms.{IsForm, Taken}
use Rattle.daachorse_bytewise_states.specs.Grouped.{HasShape}
use Rattle.daachorse_bytewise_states.specs.Parts.{Parts}
use Rattle.daachorse_bytewise_states.specs.PartForms.{AreCounted, IsAutomaton, parts_form, parts_law, parts_most, take_parts}
use Rattle.daachorse_bytewise_states.specs.Valid.{IsValid}

module _ {V : Type 0} (p : Parts V) where
  lists-counted : (leftmost : Bool) → cond leftmost (length p.leftmost) (length p.standard) < 2 ^ 32 → length p.outputs < 2 ^ 32 → HasShape p leftmost → AreCounted p
  lists-counted false few outputs shape = record {
    standard = few;
    leftmost = omega (arith, ap length shape.0);
    fails = omega (arith, ap length shape.1);
    outputs = outputs;
  }
  lists-counted true few outputs shape = record {
    standard = omega (arith, ap length shape.0);
    leftmost = few;
    fails = omega (arith, shape.1);
    outputs = outputs;
  }

  -- the lists of valid parts can be counted
  valid-counted : IsValid p → AreCounted p
  valid-counted valid = lists-counted (is_leftmost p.kind) valid.grouped.few.elements valid.grouped.few.outputs valid.grouped.shape

-- the parts of an automaton in hand are read back from their form, whatever follows it
pub automaton_law : {V : Type 0} {P : V → Type 0} {value : V → List ℕ} {take_value : List ℕ → Taken V} {n : ℕ} → IsForm P value take_value (λ _. n)
    → IsForm (λ w. IsAutomaton P w.0 w.1.1) (λ w. parts_form value w.0 w.1.0 w.1.1) (take_parts take_value) (λ w. parts_most n w.0 w.1.1)
automaton_law law = law_where (λ w a. (valid-counted w.0 a.valid, (a.numbers, a.filtered))) (parts_law law)
