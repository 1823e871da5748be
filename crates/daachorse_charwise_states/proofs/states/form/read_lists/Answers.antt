-- An error of its own is that of a value, after the parts that come before the outputs: elements, codes and a filter have none.
use Rattle.std.proofs.Common.{inl, inr}
use Rattle.daachorse_core.proofs.Refusals.{at_error}
use Rattle.daachorse_serializer.specs.Endings.{IsOfEnding}
use Rattle.daachorse_serializer.specs.Forms.{IsOfList}
use Rattle.daachorse_serializer.proofs.Reading.{IsReadRefusal-weaker}
use Rattle.daachorse_charwise_states.specs.PartForms.{IsOfParts}
use Rattle.daachorse_charwise_states.specs.Written.{take_element}
use Rattle.daachorse_charwise_states.proofs.states.form.read_lists.Goals as goal

pub returns-in_err-states-clause-err : goal.returns-in_err-states-clause-err
returns-in_err-states-clause-err g c =
    let v = g.V.Serializable in
    at_error c.from_residual.result _ _ c.from_residual.ensures.1
    (IsReadRefusal-weaker (IsOfList take_element (λ _ _. ⊥) c.args.src.now) (IsOfParts v.taken v.own_refusal c.args.src.now)
    (λ e h. absurd h.refused.1.1.refused) c.in_err-states.field-0.0 c.in_err-states.ensures.err)

pub returns-in_err-ending-clause-err : goal.returns-in_err-ending-clause-err
returns-in_err-ending-clause-err g c =
    let v = g.V.Serializable in
    let s = c.in_ok-states in let m = c.in_ok-mapper in
    at_error c.from_residual-in_err-ending.result _ _ c.from_residual-in_err-ending.ensures.1
    (IsReadRefusal-weaker (IsOfEnding v.taken v.own_refusal (λ _ _. ⊥) m.rest.now) (IsOfParts v.taken v.own_refusal c.args.src.now)
    (λ e h. elim h [
      | inl value ↦ record {
        value = s.states.items;
        left = s.rest.now;
        taken = s.ensures.given;
        refused = record { value = m.mapper; left = m.rest.now; taken = m.ensures.given; refused = value };
      }
      | inr filter ↦ absurd filter.refused.refused.refused.1.1
    ])
    c.in_err-ending.field-0.0 c.in_err-ending.ensures.err)
