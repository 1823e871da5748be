-- What ends behind the unit begins behind it, since no key has the unit.
use Rattle.daachorse_model.specs.Dictionary.{dictionary}
use Rattle.daachorse_model.proofs.CutHaystacks.{overlapping_cut, no_suffix_cut, standard_cut, leftmost_cut}
use Rattle.daachorse_model.proofs.laws.cut_at_unused_units.Goals as goal

pub returns : goal.returns
returns g c = record {
  overlapping = λ width patterns u unused. overlapping_cut width (dictionary c.args.kind patterns) u unused;
  no_suffix = λ width patterns u unused. no_suffix_cut width (dictionary c.args.kind patterns) u unused;
  standard = λ width patterns u unused. standard_cut width (dictionary c.args.kind patterns) u unused;
  leftmost = λ width patterns u unused. leftmost_cut width (dictionary c.args.kind patterns) u unused;
}
