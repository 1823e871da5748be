-- Both searches go on no earlier than where their last match ends, so the next match starts there or later.
use Rattle.daachorse_model.specs.Dictionary.{dictionary}
use Rattle.daachorse_model.proofs.Find.{standard_apart}
use Rattle.daachorse_model.proofs.Overlap.{leftmost_apart}
use Rattle.daachorse_model.proofs.laws.matches_follow.Goals as goal

pub returns : goal.returns
returns g c = record {
  standard = λ width patterns h. standard_apart width (dictionary c.args.kind patterns) h;
  leftmost = λ width patterns h. leftmost_apart width (dictionary c.args.kind patterns) h;
}
