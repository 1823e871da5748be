-- The characters of a string take just its bytes, however they are read, and the number of these fits in 64 bits.
use Rattle.std.proofs.Common.{arith}
use Rattle.std.specs.Str.{chars}
use Rattle.daachorse_core.specs.FoldedForms.{char_as_wide}
use Rattle.daachorse_model.specs.Units.{char_width}
use Rattle.daachorse_model.proofs.FoldLaws.{size-as_read}
use Rattle.daachorse_haystack.proofs.TextLaws.{size-chars}
use Rattle.daachorse_haystack.proofs.text.Text.new.Goals as goal

pub returns-clause-fits : goal.returns-clause-fits
returns-clause-fits c = omega (arith, size-chars c.args.haystack.now c.utf8.haystack, size-as_read char_width char_as_wide c.args.folds (chars c.args.haystack.now))
