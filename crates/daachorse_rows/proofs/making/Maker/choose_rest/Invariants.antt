-- The steps from the rows before `at` end in rows if at first those from the rows before `from` did, and all rows stay; `at` rises to the number of rows, which is at most that for which there is room.
use Rattle.std.proofs.Common.{◌-◌, ◌/◌, ℕ}
use Rattle.daachorse_rows.specs.Rows.{AreChosen, AreShallow, AreStepped, GoesOn, labelled}
use Rattle.daachorse_rows.proofs.making.Maker.choose_rest.Given as goal

abbrev pub invariant-loop-at : goal.invariant-loop-at
invariant-loop-at g l =
    let seen = labelled g.A.Automaton.sees g.A.Automaton.labels g.A.Label.RowLabel.number l.self in
    record {
      chosen : AreChosen seen l.chosen.order.items l.chosen.homes.items;
      on : GoesOn l.fn.chosen.order.items l.chosen.order.items;
      shallow : (n : ℕ) → AreShallow seen n l.fn.chosen.order.items → (m : ℕ) × AreShallow seen m l.chosen.order.items;
      stepped : AreStepped seen l.at l.chosen.order.items;
    }

abbrev pub decreases-loop-at : goal.decreases-loop-at
decreases-loop-at g l = 63168 / l.self.width - l.at
