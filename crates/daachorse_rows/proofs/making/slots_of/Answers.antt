-- The slot that is pushed is that of the next number, and those before it stay as they were.
use Rattle.std.proofs.Common.{map}
use Rattle.daachorse_rows.proofs.MakingLaws.{AreSlots-more}
use Rattle.daachorse_rows.proofs.making.slots_of.Goals as goal

pub loop-number-preserved : goal.loop-number-preserved
loop-number-preserved g c = AreSlots-more (map g.T.RowLabel.number c.args.labels.now) c.loop-number.number _ _ c.slot_of.result c.loop-number.invariant c.in_ok-push.ensures.items c.slot_of.ensures
