-- A pattern that is shorter than the text is a proper prefix where the text starts with it, and one that is as long or longer is none.
use Rattle.std.proofs.Common.{length, sym, ◌∙◌}
use Rattle.std.proofs.lemmas.Bool.{le-ltb}
use Rattle.daachorse_model.proofs.SlowLeftmost.{is_proper_prefix-starts, is_proper_prefix-long}
use Rattle.daachorse_model.proofs.slow.leftmost.extends.Goals as goal

pub returns-then-pattern-text : goal.returns-then-pattern-text
returns-then-pattern-text c = c.starts_with.ensures.value ∙ sym (is_proper_prefix-starts c.args.pattern.now c.args.text.now c.if-pattern-text.true)

pub returns-else-pattern-text : goal.returns-else-pattern-text
returns-else-pattern-text c = le-ltb (length c.args.pattern.now) (length c.args.text.now) c.if-pattern-text.false ∙ sym (is_proper_prefix-long c.args.pattern.now c.args.text.now c.if-pattern-text.false)
