-- Where there is no document, nothing is counted; else there are as many counts as states.
use Rattle.std.proofs.Common.{◌≡◌, false, true, length, map, vec_len, sym, ap, ◌∙◌, arith}
use Rattle.std.specs.Prelude.{◌==◌}
use Rattle.std.proofs.lemmas.Bool.{false≢true}
use Rattle.std.proofs.lemmas.List.{length-map}
use Rattle.daachorse_build.proofs.GrownCounts.{length-resized}
use Rattle.daachorse_patterns.proofs.corpus.Corpus.profile.Goals as goal

pub count_all-requires-clause-counts : goal.count_all-requires-clause-counts
count_all-requires-clause-counts g c = record {
  visits = ap length c.in_ok-resize.ensures.visits ∙ (length-resized _ _ ∙ ap length c.states.ensures);
  probes = ap length c.in_ok-resize.ensures.probes ∙ (length-resized _ _ ∙ ap length c.states.ensures);
}

pub returns-clause-none : goal.returns-clause-none
returns-clause-none g c = λ none.
    let documents = c.args.self.now.documents in
    let zero' : vec_len documents ≡ 0 = omega (arith, ap length none, length-map documents.items (λ document. map g.L.EdgeLabel.unit document.items), documents.ok.0) in
    let bad : false ≡ true = sym c.if-is_empty.false ∙ (c.is_empty.ensures ∙ ap (λ n. n == 0) zero') in
    absurd (false≢true bad)
