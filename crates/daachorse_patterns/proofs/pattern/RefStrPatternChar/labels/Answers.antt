-- At the end the text has given all its characters in order, and these are what the buffer has.
use Rattle.std.proofs.Common.{◌≡◌, ℕ, map, ap, ◌∙◌}
use Rattle.std.proofs.lemmas.Iterator.{YieldsList-from_chars}
use Rattle.std.proofs.lemmas.Iterator.Consumers.{YieldsList-end}
use Rattle.daachorse_patterns.proofs.pattern.RefStrPatternChar.labels.Goals as goal

pub returns-clause-ok : goal.returns-clause-ok
returns-clause-ok g c =
    let unit : ℕ → ℕ = λ character. character in
    let all = YieldsList-end (YieldsList-from_chars c.args.self.now.now c.type_inv.self cc) c.loop-character.yielded _ c.loop-character.yielded_by _ _ c.in-None.is c.next.ensures.steps in
    let held : c.as_slice.result.now ≡ c.loop-character.yielded = c.as_slice.ensures.value ∙ c.loop-character.invariant in
    ap (map unit) held ∙ all.0
