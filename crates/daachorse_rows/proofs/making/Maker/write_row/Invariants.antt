-- All rows before this one are written, and of this one its state, the slot of the labels that are not listed and those of the listed labels so far.
use Rattle.std.proofs.Common.{◌+◌}
use Rattle.daachorse_rows.specs.Rows.{AreWritten, labelled}
use Rattle.daachorse_rows.proofs.making.Maker.write_row.Given as goal

abbrev pub invariant-loop-k : goal.invariant-loop-k
invariant-loop-k g l =
    let seen = labelled g.A.Automaton.sees g.A.Automaton.labels g.A.Label.RowLabel.number l.self in
    AreWritten g.A.Unit.EdgeLabel.width seen l.chosen.order.items l.row (3 + l.k) l.top.items
