-- The label that was looked at has another number, so none of the labels up to it has the number.
use Rattle.std.proofs.Common.{inl, inr, sym, ap, ◌∙◌, map}
use Rattle.std.specs.Prelude.{slice_index}
use Rattle.daachorse_model.proofs.Lists.{below_or_at}
use Rattle.daachorse_rows.proofs.MakingLaws.{number_read}
use Rattle.daachorse_rows.proofs.making.slot_of.Goals as goal

pub loop-k-preserved : goal.loop-k-preserved
loop-k-preserved g c = λ j below.
    let number = g.T.RowLabel.number in let labels = c.args.labels.now in
    elim (below_or_at j c.loop-k.k below) [
      | inl less ↦ c.loop-k.invariant j less
      | inr same ↦ λ e.
          let read = number_read number labels c.loop-k.k c.index-labels-k.result c.loop-k-test.true c.index-labels-k.is in
          c.if-index-number.false (c.index.ensures.is ∙ (sym read ∙ (ap (slice_index (map number labels)) (sym same) ∙ e)))
    ]
