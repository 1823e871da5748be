-- The walk read all units taken from the source and found nothing at the end of any, the place is that behind them, and the source is still ready, with ever fewer items left.
use Rattle.std.proofs.Common.{◌≡◌, List}
use Rattle.std.specs.Iterator.{items_left}
use Rattle.daachorse_model.specs.Units.{size}
use Rattle.daachorse_haystack.specs.Readings.{unit_as_read}
use Rattle.daachorse_haystack.specs.Sources.{IsReady}
use Rattle.daachorse_search.specs.Scans.{ScansOver}
use Rattle.daachorse_search.proofs.scan.scan.Given as goal

abbrev pub invariant-units : goal.invariant-units
invariant-units g l =
    let S = g.S.Iterator in let view = g.W.Stepwise.sees in let unit = g.W.Unit.EdgeLabel in
    record {
      over : (xs : List g.row.W-Unit.Denot) × ScansOver view S.next_gives S.remaining (unit_as_read l.folds unit.unit) l.fn.walk l.fn.source xs l.walk l.source;
      ready : IsReady S.can_next S.next_gives S.remaining (unit_as_read l.folds unit.unit) unit.width l.source (size unit.width (view.read l.walk));
      here : l.place ≡ size unit.width (view.read l.walk);
    }

abbrev pub decreases-units : goal.decreases-units
decreases-units g l = items_left g.S.Iterator.remaining l.source
