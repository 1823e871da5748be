-- The place behind the unit fits, since the source is ready.
use Rattle.std.proofs.Common.{arith}
use Rattle.daachorse_haystack.proofs.SourceLaws.{IsReady-next}
use Rattle.daachorse_haystack.proofs.source.Source.next_at.Goals as goal

pub overflow_add-place : goal.overflow_add-place
overflow_add-place g c =
    let S = g.Self.Iterator in let unit = g.U.EdgeLabel in let taken = c.in_ok-unit.ensures in
    omega (arith, IsReady-next S.can_next S.next_gives S.remaining unit.unit unit.width c.args.self.now c.in_ok-unit.unit c.next.new.self c.args.place.now c.requires.ready taken.steps taken.goes, c.num_bytes.ensures)
