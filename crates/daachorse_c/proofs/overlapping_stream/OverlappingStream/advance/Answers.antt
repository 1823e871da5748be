-- The place counts one unit more, and the next output is the first of those that end there.
use Rattle.std.proofs.Common.{ap, arith}
use Rattle.daachorse_core.specs.Seen.{units}
use Rattle.daachorse_model.specs.Units.{size}
use Rattle.daachorse_model.proofs.Suffixes.{size-push}
use Rattle.daachorse_c.proofs.overlapping_stream.OverlappingStream.advance.Goals as goal

pub invariant_of-self : goal.invariant_of-self
invariant_of-self g c =
    let unit = g.A.Unit.EdgeLabel in let was = c.self.inside in let stepped = c.advance-self-inside.ensures in (
      omega (arith, c.self.invariant.0, c.requires.bytes, ap (size unit.width) stepped.read, size-push unit.width (units was.walk.seen) (unit.unit c.args.unit)),
      stepped.stops.place,
    )
