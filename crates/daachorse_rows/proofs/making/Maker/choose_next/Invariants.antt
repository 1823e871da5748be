-- The steps from the rows so far end in rows, and each row that was added is that of a state at most one unit deeper than those.
use Rattle.daachorse_rows.specs.Rows.{AreAdded, AreStepped, labelled}
use Rattle.daachorse_rows.proofs.making.Maker.choose_next.Given as goal

abbrev pub invariant-loop-at : goal.invariant-loop-at
invariant-loop-at g l =
    let seen = labelled g.A.Automaton.sees g.A.Automaton.labels g.A.Label.RowLabel.number l.self in
    record {
      added : AreAdded seen l.fn.chosen.order.items l.chosen.order.items l.chosen.homes.items l.at;
      stepped : AreStepped seen l.at l.chosen.order.items;
    }
