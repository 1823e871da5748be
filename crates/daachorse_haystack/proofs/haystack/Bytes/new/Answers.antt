-- The size of a slice of bytes is its length, since each byte counts as one, and a length fits in 64 bits.
use Rattle.std.proofs.Common.{arith}
use Rattle.daachorse_core.specs.FoldedForms.{byte_as_wide}
use Rattle.daachorse_model.specs.Units.{byte_width}
use Rattle.daachorse_model.proofs.FoldLaws.{size-as_read}
use Rattle.daachorse_model.proofs.Suffixes.{size-bytes}
use Rattle.daachorse_haystack.proofs.haystack.Bytes.new.Goals as goal

pub returns-clause-fits : goal.returns-clause-fits
returns-clause-fits c = omega (arith, size-bytes c.args.haystack.now, size-as_read byte_width byte_as_wide c.args.folds c.args.haystack.now)
