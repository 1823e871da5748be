-- A string is the UTF-8 of its characters.
use Rattle.std.proofs.Common.{sym, ◌∙◌}
use Rattle.std.proofs.lemmas.Str.{encodes-chars}
use Rattle.daachorse_patterns.proofs.pattern.RefStrPatternChar.bytes.Goals as goal

pub returns : goal.returns
returns c = c.as_bytes.ensures.value ∙ sym (encodes-chars c.args.self.now.now c.type_inv.self)
