-- A folded label is that of the folded unit.
use Rattle.std.proofs.Common.{ℕ, map, get_or, ap, ◌∙◌, arith}
use Rattle.daachorse_model.specs.Folding.{folded_unit}
use Rattle.daachorse_patterns.proofs.FoldingLaws.{written_more}
use Rattle.daachorse_patterns.proofs.corpus.fold_labels.Goals as goal

pub loop-label-preserved : goal.loop-label-preserved
loop-label-preserved g c =
    let unit : g.row.L.Denot → ℕ = g.L.EdgeLabel.unit in
    let labels = c.loop-label.labels in let i = c.loop-label.label-index in let d = c.label-item.result in
    written_more folded_unit unit labels (map unit c.args.labels.now) i d c.folded.result c.loop-label.invariant (omega (arith, c.loop-label-test.true, c.loop-label.auto.labels))
    (ap unit c.folded.ensures ∙ g.met.L.AsciiFold.folds (get_or labels i d))
