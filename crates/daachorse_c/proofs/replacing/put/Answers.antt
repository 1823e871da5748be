-- The text grows by these bytes, of which are copied as many as there is room for.
use Rattle.std.proofs.Common.{arith}
use Rattle.daachorse_c.proofs.Cut.{cut-full, cut-more}
use Rattle.daachorse_c.proofs.replacing.put.Goals as goal

pub returns-then-size-room : goal.returns-then-size-room
returns-then-size-room c text first cut =
    rw c.saturating_add-all.ensures
    (cut-more text c.args.bytes.now first c.args.out.now c.put_in_front.new.out c.args.size c.min-count.result (omega (arith, c.if-size-room.true)) (omega (arith, c.well_formed)) cut c.min-count.ensures c.put_in_front.ensures)

pub returns-else-size-room : goal.returns-else-size-room
returns-else-size-room c text first cut = rw c.saturating_add-all.ensures (cut-full text c.args.bytes.now first c.args.out.now c.args.size (omega (arith, c.if-size-room.false)) cut)
