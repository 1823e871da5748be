-- The number that is read is that of the position that it makes.
use Rattle.std.proofs.Common.{◌∙◌, ap, Some}
use Rattle.daachorse_serializer.specs.Forms.{over}
use Rattle.daachorse_serializer.specs.Positions.{position_from, position_made}
use Rattle.daachorse_serializer.proofs.numbers.OptionNonZeroU32Serializable.deserialize_from_slice.Goals as goal

pub returns-clause-given : goal.returns-clause-given
returns-clause-given c =
    ap (over position_from) c.in_ok-number.ensures.given ∙ ap (λ v. Some (v, c.in_ok-number.rest.now))
    (position_made c.new.result c.in_ok-number.number c.new.ensures)
