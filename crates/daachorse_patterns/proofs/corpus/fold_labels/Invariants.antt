-- The units so far are folded.
use Rattle.std.proofs.Common.{◌≡◌, map}
use Rattle.daachorse_model.specs.Folding.{folded_unit}
use Rattle.daachorse_patterns.proofs.FoldingLaws.{partly}
use Rattle.daachorse_patterns.proofs.corpus.fold_labels.Given as goal

abbrev pub invariant-loop-label : goal.invariant-loop-label
invariant-loop-label g l = map g.L.EdgeLabel.unit l.labels ≡ partly folded_unit l.label-index (map g.L.EdgeLabel.unit l.initial.labels)
