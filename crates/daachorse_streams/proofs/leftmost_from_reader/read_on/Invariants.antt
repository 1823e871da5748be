-- All units taken from the source were read, and no match was given. The prefilter passes where it did.
use Rattle.std.proofs.Common.{◌≡◌, ℕ, List, Some}
use Rattle.std.specs.Iterator.{items_left}
use Rattle.daachorse_streams.specs.LeftmostReading.{MayReadOn}
use Rattle.daachorse_streams.proofs.ReadingLaws.{HasTaken}
use Rattle.daachorse_streams.proofs.leftmost_from_reader.read_on.Given as goal

abbrev pub invariant-units : goal.invariant-units
invariant-units g l =
    let S = g.S.Iterator in let unit = g.A.Unit.EdgeLabel in
    record {
      over : (xs : List g.row.A-Unit.Denot) × HasTaken unit.width g.A.Automaton.sees S.next_gives S.remaining unit.unit g.S.ReadSource.failure l.fn.stream l.fn.source xs l.source l.stream;
      given : l.stream.given ≡ l.fn.stream.given;
      may : MayReadOn g.S.Source.may_read l.stream (Some l.source);
      passes : (w : List ℕ) → g.A.Unit.BlockUnit.passes l.skipping w ≡ g.A.Unit.BlockUnit.passes l.fn.skipping w;
    }

abbrev pub decreases-units : goal.decreases-units
decreases-units g l = items_left g.S.Iterator.remaining l.source
