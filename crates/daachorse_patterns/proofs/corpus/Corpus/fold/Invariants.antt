-- The documents so far are folded.
use Rattle.std.proofs.Common.{◌≡◌, map}
use Rattle.daachorse_model.specs.Folding.{folded}
use Rattle.daachorse_patterns.proofs.FoldingLaws.{partly}
use Rattle.daachorse_patterns.proofs.corpus.Corpus.fold.Given as goal

abbrev pub invariant-loop-document : goal.invariant-loop-document
invariant-loop-document g l =
    map (λ document. map g.L.EdgeLabel.unit document.items) l.document-items ≡ partly folded l.document-index (map (λ document. map g.L.EdgeLabel.unit document.items) l.initial.document-items)
