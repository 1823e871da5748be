-- The ends of the steps by the labels so far have rows, and each row that was added is that of a state at most one unit deeper than the one of the steps.
use Rattle.std.proofs.Common.{◌+◌}
use Rattle.daachorse_rows.specs.Rows.{AreAdded, AreStepped, labelled}
use Rattle.daachorse_rows.proofs.ShallowLaws.{Row}
use Rattle.daachorse_rows.proofs.making.Maker.choose_ends.Given as goal

abbrev pub invariant-loop-k : goal.invariant-loop-k
invariant-loop-k g l =
    let seen = labelled g.A.Automaton.sees g.A.Automaton.labels g.A.Label.RowLabel.number l.self in
    record {
      added : AreAdded seen l.fn.chosen.order.items l.chosen.order.items l.chosen.homes.items (l.at + 1);
      stepped : AreStepped seen l.at l.chosen.order.items;
      row : Row seen l.at l.k l.chosen.order.items;
    }
