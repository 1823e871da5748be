-- The ring keeps the room that it was made with.
use Rattle.std.proofs.Common.{subst}
use Rattle.daachorse_streams.specs.Streamed.{IsRoomFor, LeftmostStreamed}
use Rattle.daachorse_streams.proofs.leftmost_stream.LeftmostStream.room_is_exact.Goals as goal

pub returns : goal.returns
returns g c =
    let P : LeftmostStreamed g.row.V.Denot g.row.A.Denot → Type 0 =
    λ s. IsRoomFor g.A.Unit.EdgeLabel.width (g.A.Automaton.sees s.automaton).content s.room in
    subst P c.self.view_is c.self.invariant.1.room
