-- A character past ASCII lies behind the letters.
use Rattle.std.proofs.Common.{sym, arith}
use Rattle.daachorse_model.proofs.FoldLaws.{folded_unit-is}
use Rattle.daachorse_core.proofs.ascii_fold.CharAsciiFold.folded.Goals as goal

pub returns-else-self-lt128 : goal.returns-else-self-lt128
returns-else-self-lt128 c = sym ((folded_unit-is c.args.self.now).2 (omega arith))
