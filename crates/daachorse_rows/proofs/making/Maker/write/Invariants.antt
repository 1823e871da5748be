-- The rows of the states so far are written, one behind the other, and nothing behind them.
use Rattle.daachorse_rows.specs.Rows.{AreWritten, labelled}
use Rattle.daachorse_rows.proofs.making.Maker.write.Given as goal

abbrev pub invariant-loop-row : goal.invariant-loop-row
invariant-loop-row g l =
    let seen = labelled g.A.Automaton.sees g.A.Automaton.labels g.A.Label.RowLabel.number l.self in
    AreWritten g.A.Unit.EdgeLabel.width seen l.chosen.order.items l.row 0 l.top.items
