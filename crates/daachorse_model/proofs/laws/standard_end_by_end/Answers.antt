-- What the standard search has found after a text is not touched by what comes later, so each end adds the match that ends there; a unit takes at least one byte, so no two ends are at one place.
use Rattle.std.proofs.Common.{arith}
use Rattle.std.proofs.lemmas.Str.{len_utf8_bounds}
use Rattle.daachorse_model.specs.Units.{byte_width, char_width}
use Rattle.daachorse_model.specs.Dictionary.{dictionary}
use Rattle.daachorse_model.proofs.StandardEnds.{standard-joined}
use Rattle.daachorse_model.proofs.laws.standard_end_by_end.Goals as goal

pub returns : goal.returns
returns g c = record {
  bytes = λ patterns h. standard-joined byte_width (dictionary c.args.kind patterns) (λ u. omega arith) h;
  chars = λ patterns h. standard-joined char_width (dictionary c.args.kind patterns) (λ u. (len_utf8_bounds u).0) h;
}
