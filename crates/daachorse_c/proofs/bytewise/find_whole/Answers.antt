-- Each value of the text is that of a match with the whole text.
use Rattle.std.proofs.Common.{rules, length, ◌∙◌}
use Rattle.std.proofs.lemmas.Iterator.{YieldsList-from_map}
use Rattle.std.proofs.lemmas.Iterator.Consumers.{YieldsList-from_first}
use Rattle.daachorse_model.specs.Folding.{as_read}
use Rattle.daachorse_model.proofs.FoldLaws.{length-as_read}
use Rattle.daachorse_model.proofs.Suffixes.{size-bytes}
use Rattle.daachorse_c.proofs.bytewise.find_whole.Goals as goal

pub returns : goal.returns
returns c =
    let values = YieldsList-from_first (λ v. v) (λ s. s) _ (c.map.ensures.source ∙ c.get-values.ensures) in
    rw (size-bytes (as_read c.args.automaton.now.folds c.args.text.now), length-as_read c.args.automaton.now.folds c.args.text.now)
    (c.fill.ensures.written _ (YieldsList-from_map _ (λ v. record { start = 0; end = length c.args.text.now; value = v }) values c.map.ensures.closure (λ x r q called. search rules)).runs)
