-- The documents are all that the iterator gives, each copied.
use Rattle.std.proofs.Common.{ℕ, List, map, ap, ◌∙◌}
use Rattle.std.specs.Borrow.{Bor}
use Rattle.daachorse.proofs.bytewise.builder.DoubleArrayAhoCorasickBuilder.corpus.Goals as goal

pub returns-clause-copies : goal.returns-clause-copies
returns-clause-copies g c =
    let r = c.in_ok-documents.ensures.ok in
    let texts : List (Bor (List ℕ)) → List (List ℕ) = map (λ t. t.now) in
    (c.into_iter.result, c.into_iter.ensures.into_iter_gives, (r.0, r.1, r.2, c.in_ok-copy_of.ensures.ok ∙ ap texts (c.deref.ensures.value ∙ r.3)))
