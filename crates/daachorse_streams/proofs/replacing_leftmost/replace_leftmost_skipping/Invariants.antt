-- What was taken is what the stream read, and went out but for what is held. The prefilter passes where it did.
use Rattle.std.proofs.Common.{◌≡◌, ℕ, List, Some, Bor}
use Rattle.std.specs.Iterator.{items_left}
use Rattle.daachorse_streams.specs.LeftmostReading.{MayReadOn}
use Rattle.daachorse_streams.proofs.ReplacingLaws.{Goes}
use Rattle.daachorse_streams.proofs.replacing_leftmost.replace_leftmost_skipping.Given as goal

abbrev pub invariant-units : goal.invariant-units
invariant-units g l =
    let S = g.S.Iterator in let label = g.A.Unit.EdgeLabel in
    record {
      callable : goal.F-IsAlwaysCallable g l.write;
      automaton : l.stream.automaton ≡ l.fn.automaton;
      folds : l.stream.folds ≡ l.fn.folds;
      may : MayReadOn g.S.Source.may_read l.stream (Some l.source);
      passes : (w : List ℕ) → g.A.Unit.BlockUnit.passes l.skipping w ≡ g.A.Unit.BlockUnit.passes l.fn.skipping w;
      goes : Goes {P = Bor (List ℕ)} (λ s. s.now) g.O.Write.contents (goal.F-step g) l.fn.write l.fn.out S.can_next S.next_gives S.remaining
          g.S.ReadSource.failure label.unit label.form label.width
          (g.A.Automaton.sees l.fn.automaton).content l.fn.folds l.fn.source l.stream.read l.stream.given l.source l.held.place
          l.held.bytes.items l.write l.out;
    }

abbrev pub decreases-units : goal.decreases-units
decreases-units g l = items_left g.S.Iterator.remaining l.source
