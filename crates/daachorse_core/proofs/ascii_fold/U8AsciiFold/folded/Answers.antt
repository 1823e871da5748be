-- The table is held against the definition at each of the 256 bytes, by computing.
use Rattle.std.proofs.Common.{true, get_or, refl, arith}
use Rattle.std.proofs.Math.Dec.{eqb}
use Rattle.std.proofs.lemmas.Bool.{agree_below_at, eqb-true}
use Rattle.daachorse_core.specs.declared.ascii_fold.TheConstants.{FOLDED}
use Rattle.daachorse_model.specs.Folding.{folded_unit}
use Rattle.daachorse_core.proofs.ascii_fold.U8AsciiFold.folded.Goals as goal

pub returns : goal.returns
unfolding folded_unit
returns c = eqb-true _ _ (agree_below_at (λ b. eqb (get_or FOLDED b 0) (folded_unit b)) (λ _. true) 256 c.args.self.now refl (omega arith))
