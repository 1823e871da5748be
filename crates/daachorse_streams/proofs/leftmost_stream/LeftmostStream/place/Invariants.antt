-- The place so far and the units that are left add up to all that was read.
use Rattle.std.proofs.Common.{◌≡◌, ◌+◌, drop, map}
use Rattle.daachorse_model.specs.Units.{size}
use Rattle.daachorse_streams.proofs.leftmost_stream.LeftmostStream.place.Given as goal

abbrev pub invariant-units : goal.invariant-units
invariant-units g l =
    let unit = g.A.Unit.EdgeLabel in
    l.place + size unit.width (map unit.unit (drop l.index l.ring.items)) ≡ size unit.width l.fn.self.read
