-- A character's UTF-8 begins with a byte that tells how many follow, and then has its digits in base 64, so two texts compare by their first differing byte as by their first differing character.
use Rattle.daachorse_model.proofs.TextOrder.{texts_cmp}
use Rattle.daachorse_model.proofs.laws.ordered_by_bytes.Goals as goal

pub returns : goal.returns
returns c = texts_cmp
