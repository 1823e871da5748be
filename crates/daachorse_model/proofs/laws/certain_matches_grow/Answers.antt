-- Of two lists of which each begins the other both are one; what begins the matches of each haystack begins those of each that is longer.
use Rattle.daachorse_model.specs.Dictionary.{dictionary}
use Rattle.daachorse_model.proofs.Certain.{certain_one, certain_begins, certain_grows}
use Rattle.daachorse_model.proofs.laws.certain_matches_grow.Goals as goal

pub returns : goal.returns
returns g c = record {
  one = λ width patterns u ms ns. certain_one width (dictionary c.args.kind patterns) u ms ns;
  begins = λ width patterns u ms. certain_begins width (dictionary c.args.kind patterns) u ms;
  grows = λ width patterns u d ms ns. certain_grows width (dictionary c.args.kind patterns) u d ms ns;
}
