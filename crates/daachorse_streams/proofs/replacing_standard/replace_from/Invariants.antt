-- What was taken is what the stepper read, and went out but for what is held.
use Rattle.std.proofs.Common.{◌≡◌, ℕ, List, Bor}
use Rattle.std.specs.Iterator.{items_left}
use Rattle.daachorse_streams.proofs.GoesLaws.{Goes}
use Rattle.daachorse_streams.proofs.replacing_standard.replace_from.Given as goal

abbrev pub invariant-units : goal.invariant-units
invariant-units g l =
    let S = g.S.Iterator in let label = g.A.Unit.EdgeLabel in
    record {
      callable : goal.F-IsAlwaysCallable g l.write;
      automaton : l.stepper.automaton ≡ l.fn.automaton;
      folds : l.stepper.folds ≡ l.fn.folds;
      goes : Goes {P = Bor (List ℕ)} (λ s. s.now) g.O.Write.contents (goal.F-step g) l.fn.write l.fn.out S.can_next S.next_gives S.remaining
          g.S.ReadSource.failure label.unit label.form label.width
          (g.A.Automaton.sees l.fn.automaton).content l.fn.longest l.fn.folds l.fn.source l.stepper.read l.source l.held.items l.write
          l.out;
    }

abbrev pub decreases-units : goal.decreases-units
decreases-units g l = items_left g.S.Iterator.remaining l.source
