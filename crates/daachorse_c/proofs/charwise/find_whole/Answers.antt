-- Each value of the text is that of a match with the whole text.
use Rattle.std.proofs.Common.{rules, length, ◌∙◌}
use Rattle.std.proofs.lemmas.Iterator.{YieldsList-from_map}
use Rattle.std.proofs.lemmas.Iterator.Consumers.{YieldsList-from_first}
use Rattle.std.specs.Str.{chars}
use Rattle.daachorse_model.specs.Units.{char_width}
use Rattle.daachorse_model.proofs.FoldLaws.{char_width-folded, size-as_read}
use Rattle.daachorse_haystack.proofs.TextLaws.{size-chars}
use Rattle.daachorse_c.proofs.charwise.find_whole.Goals as goal

pub returns : goal.returns
returns c =
    let values = YieldsList-from_first (λ v. v) (λ s. s) _ (c.map.ensures.source ∙ c.get-values.ensures) in
    rw (size-as_read char_width char_width-folded c.args.automaton.now.folds (chars c.args.text.now), size-chars c.args.text.now c.utf8.text)
    (c.fill.ensures.written _ (YieldsList-from_map _ (λ v. record { start = 0; end = length c.args.text.now; value = v }) values c.map.ensures.closure (λ x r q called. search rules)).runs)
