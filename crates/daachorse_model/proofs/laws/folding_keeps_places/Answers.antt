-- Each is a lemma of folding.
use Rattle.std.proofs.Common.{refl}
use Rattle.std.proofs.lemmas.List.{length-map}
use Rattle.daachorse_model.specs.Units.{byte_width, char_width}
use Rattle.daachorse_model.specs.Folding.{folded_unit}
use Rattle.daachorse_model.proofs.FoldLaws.{folded-again, char_width-folded, size-as_read, encodes-folded, chars-folded, IsCharBoundary-folded}
use Rattle.daachorse_model.proofs.laws.folding_keeps_places.Goals as goal

pub returns : goal.returns
returns c = record {
  again = folded-again;
  length = λ w. length-map w folded_unit;
  bytes = size-as_read byte_width (λ u. refl);
  size = size-as_read char_width char_width-folded;
  spelled = encodes-folded;
  characters = chars-folded;
  boundaries = IsCharBoundary-folded;
}
