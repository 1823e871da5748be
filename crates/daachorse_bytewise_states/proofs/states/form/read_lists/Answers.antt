-- An error of its own is that of a value, after the lists that come before the outputs: numbers, elements and a filter have none.
use Rattle.std.proofs.Common.{inl, inr}
use Rattle.std.specs.Int.{w32}
use Rattle.daachorse_core.proofs.Refusals.{at_error}
use Rattle.daachorse_serializer.specs.Endings.{IsOfEnding}
use Rattle.daachorse_serializer.specs.Forms.{IsAfter, IsOfList, take_number}
use Rattle.daachorse_serializer.proofs.Reading.{IsReadRefusal-weaker}
use Rattle.daachorse_bytewise_states.specs.PartForms.{IsOfParts, take_nothing}
use Rattle.daachorse_bytewise_states.specs.StateForms.{take_state}
use Rattle.daachorse_bytewise_states.proofs.states.form.read_lists.Goals as goal

pub returns-in_err-standard-clause-err : goal.returns-in_err-standard-clause-err
returns-in_err-standard-clause-err g c =
    let v = g.V.Serializable in
    at_error c.from_residual.result _ _ c.from_residual.ensures.1
    (IsReadRefusal-weaker (IsOfList (take_state (take_number w32)) (IsAfter (take_number w32) (λ _ _ _. ⊥)) c.args.src.now) (IsOfParts v.taken v.own_refusal c.args.src.now)
    (λ e h. absurd h.refused.1.1.refused.refused) c.in_err-standard.field-0.0 c.in_err-standard.ensures.err)

pub returns-in_err-leftmost-clause-err : goal.returns-in_err-leftmost-clause-err
returns-in_err-leftmost-clause-err g c =
    let v = g.V.Serializable in
    at_error c.from_residual-in_err-leftmost.result _ _ c.from_residual-in_err-leftmost.ensures.1
    (IsReadRefusal-weaker (IsOfList (take_state take_nothing) (IsAfter (take_number w32) (λ _ _ _. ⊥)) c.in_ok-standard.rest.now) (IsOfParts v.taken v.own_refusal c.args.src.now)
    (λ e h. absurd h.refused.1.1.refused.refused) c.in_err-leftmost.field-0.0 c.in_err-leftmost.ensures.err)

pub returns-in_err-fails-clause-err : goal.returns-in_err-fails-clause-err
returns-in_err-fails-clause-err g c =
    let v = g.V.Serializable in
    at_error c.from_residual-in_err-fails.result _ _ c.from_residual-in_err-fails.ensures.1
    (IsReadRefusal-weaker (IsOfList (take_number w32) (λ _ _. ⊥) c.in_ok-leftmost.rest.now) (IsOfParts v.taken v.own_refusal c.args.src.now)
    (λ e h. absurd h.refused.1.1.refused) c.in_err-fails.field-0.0 c.in_err-fails.ensures.err)

pub returns-in_err-ending-clause-err : goal.returns-in_err-ending-clause-err
returns-in_err-ending-clause-err g c =
    let v = g.V.Serializable in
    let s = c.in_ok-standard in let l = c.in_ok-leftmost in let f = c.in_ok-fails in
    at_error c.from_residual-in_err-ending.result _ _ c.from_residual-in_err-ending.ensures.1
    (IsReadRefusal-weaker (IsOfEnding v.taken v.own_refusal (λ _ _. ⊥) f.rest.now) (IsOfParts v.taken v.own_refusal c.args.src.now)
    (λ e h. elim h [
      | inl value ↦ record {
        value = s.standard.items;
        left = s.rest.now;
        taken = s.ensures.given;
        refused = record { value = l.leftmost.items; left = l.rest.now; taken = l.ensures.given; refused = record { value = f.fails.items; left = f.rest.now; taken = f.ensures.given; refused = value } };
      }
      | inr filter ↦ absurd filter.refused.refused.refused.1.1
    ])
    c.in_err-ending.field-0.0 c.in_err-ending.ensures.err)
