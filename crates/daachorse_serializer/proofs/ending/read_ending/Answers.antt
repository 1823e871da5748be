-- An error of the prefilter's own comes after the parts before it.
use Rattle.std.proofs.Common.{inr}
use Rattle.daachorse_core.proofs.Refusals.{at_error}
use Rattle.daachorse_serializer.specs.Endings.{IsOfEnding}
use Rattle.daachorse_serializer.specs.Forms.{IsOfPayload}
use Rattle.daachorse_serializer.proofs.Reading.{IsReadRefusal-weaker}
use Rattle.daachorse_serializer.proofs.ending.read_ending.Goals as goal

pub returns-in_err-filter-clause-err : goal.returns-in_err-filter-clause-err
returns-in_err-filter-clause-err g c =
    let o = c.in_ok-outputs in let m = c.in_ok-mode in let n = c.in_ok-num_states in
    let own = g.F.SerializableVec.own_refusal in
    at_error c.from_residual-in_err-filter.result _ _ c.from_residual-in_err-filter.ensures.1
    (IsReadRefusal-weaker (IsOfPayload own n.rest.now) (IsOfEnding g.V.Serializable.taken g.V.Serializable.own_refusal own c.args.src.now)
    (λ e h. inr (record {
      value = o.outputs.items;
      left = o.rest.now;
      taken = o.ensures.given;
      refused = record { value = m.mode; left = m.rest.now; taken = m.ensures.given; refused = record { value = n.num_states; left = n.rest.now; taken = n.ensures.given; refused = h } };
    }))
    c.in_err-filter.field-0.0 c.in_err-filter.ensures.err)
