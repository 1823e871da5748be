-- The documents that were passed are copied.
use Rattle.std.proofs.Common.{◌≡◌, map, take}
use Rattle.daachorse_patterns.proofs.corpus.Corpus.copy_of.Given as goal

abbrev pub invariant-loop-document : goal.invariant-loop-document
invariant-loop-document g l =
    map (λ copy. map g.L.EdgeLabel.unit copy.items) l.copies.items ≡ map g.P.Pattern.units (take l.document-index l.documents)
