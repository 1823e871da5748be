-- For each number so far the slot of its label is written.
use Rattle.std.proofs.Common.{map}
use Rattle.daachorse_rows.specs.Rows.{AreSlots}
use Rattle.daachorse_rows.proofs.making.slots_of.Given as goal

abbrev pub invariant-loop-number : goal.invariant-loop-number
invariant-loop-number g l = AreSlots (map g.T.RowLabel.number l.labels) l.number l.slots.items
