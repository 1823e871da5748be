-- A document more is folded.
use Rattle.std.proofs.Common.{ℕ, List, length, get_or, map, sym, ap, ◌∙◌, arith, Vec}
use Rattle.std.specs.Vec.{with_items}
use Rattle.std.proofs.lemmas.List.{with_items_is}
use Rattle.daachorse_model.specs.Folding.{folded}
use Rattle.daachorse_patterns.proofs.FoldingLaws.{written_more}
use Rattle.daachorse_patterns.proofs.corpus.Corpus.fold.Goals as goal

pub loop-document-preserved : goal.loop-document-preserved
loop-document-preserved g c =
    let unit : g.row.L.Denot → ℕ = g.L.EdgeLabel.unit in
    let text : Vec g.row.L.Denot g.row.A.Denot → List ℕ = λ document. map unit document.items in
    let documents = c.loop-document.document-items in let i = c.loop-document.document-index in let d = c.document-item.result in
    let document = get_or documents i d in let labels = c.fold_labels.new.labels in
    let written = with_items_is document labels (c.fold_labels.auto.labels ∙ ap length c.deref_mut.ensures.value ∙ sym document.ok.0) in
    let folds = ap (map unit) written ∙ c.fold_labels.ensures ∙ ap (λ old. folded (map unit old)) c.deref_mut.ensures.value in
    written_more folded text documents (map text c.deref_mut-document-items.result.now) i d (with_items document labels) c.loop-document.invariant (omega (arith, c.loop-document-test.true, c.loop-document.auto.document-items)) folds
