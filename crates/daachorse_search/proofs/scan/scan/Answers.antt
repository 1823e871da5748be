-- Each round moves the walk, the source and the place on by the same unit, as it is read, and there is a next round only where the walk finds nothing at the end of that unit.
use Rattle.std.proofs.Common.{◌≡◌, ℕ, ◌++◌, ◌∷◌, [], refl, sym, ap, ◌∙◌, subst, append-nil, arith}
use Rattle.daachorse_model.specs.Units.{size}
use Rattle.daachorse_model.proofs.Suffixes.{size-push}
use Rattle.daachorse_haystack.specs.Readings.{unit_as_read}
use Rattle.daachorse_haystack.specs.Sources.{IsReady}
use Rattle.daachorse_haystack.proofs.ReadingLaws.{IsReady-as_it_is, ended_as_read, took_as_read}
use Rattle.daachorse_haystack.proofs.SourceLaws.{IsReady-more}
use Rattle.daachorse_search.proofs.ScanLaws.{ScansOver-more, none_found}
use Rattle.daachorse_search.proofs.scan.scan.Goals as goal

pub next_at-requires : goal.next_at-requires
next_at-requires g c =
    let view = g.W.Stepwise.sees in let S = g.S.Iterator in let unit = g.W.Unit.EdgeLabel in
    let P : ℕ → Type 0 = λ place. IsReady S.can_next S.next_gives S.remaining unit.unit unit.width c.units.source place in
    let ready = IsReady-as_it_is S.can_next S.next_gives S.remaining unit.unit unit.width g.met.W.Unit.AsciiFold.as_wide c.args.folds c.units.source (size unit.width (view.read c.units.walk)) c.units.invariant.ready in
    record { ready = subst P (sym c.units.invariant.here) ready }

pub units-init : goal.units-init
units-init g c = record {
  over = ([], record { took = refl; fewer = omega arith; same = refl; read = sym (append-nil (g.W.Stepwise.sees.read c.args.walk.now)); none = refl });
  ready = c.requires.ready;
  here = c.requires.here;
}

-- the source ended
pub returns-in_default-clause-took : goal.returns-in_default-clause-took
returns-in_default-clause-took g c =
    let S = g.S.Iterator in let unit = g.W.Unit.EdgeLabel in let was = c.units.invariant in
    let fold = g.W.Unit.AsciiFold.fold in
    (was.over.0, c.units.source, was.over.1, ended_as_read fold unit.unit g.met.W.Unit.AsciiFold.folds S.can_next S.next_gives S.remaining c.args.folds c.units.source c.next_at.new.self c.in_default.ensures.steps)

-- the place is that of all that was read
pub returns-in-Some-advance-clause-here : goal.returns-in-Some-advance-clause-here
returns-in-Some-advance-clause-here g c =
    let view = g.W.Stepwise.sees in let unit = g.W.Unit.EdgeLabel in
    omega (arith, c.units.invariant.here, c.in-Some.ensures.place, ap (size unit.width) c.advance.ensures.read, size-push unit.width (view.read c.units.walk) (unit.unit c.in-Some.unit))

pub returns-in-Some-advance-clause-took : goal.returns-in-Some-advance-clause-took
returns-in-Some-advance-clause-took g c =
    let view = g.W.Stepwise.sees in let S = g.S.Iterator in let unit = g.W.Unit.EdgeLabel in let taken = c.in-Some.ensures in let was = c.units.invariant in
    let item = took_as_read g.W.Unit.AsciiFold.fold unit.unit g.met.W.Unit.AsciiFold.folds S.can_next S.next_gives S.remaining c.args.folds c.units.source c.in-Some.unit c.next_at.new.self taken.steps taken.goes in
    (was.over.0, c.units.source, c.units.walk, item.item, was.over.1, item.took, (item.goes.on was.ready.ends).2, c.advance.ensures.automaton, c.advance.ensures.read ∙ ap (λ n. view.read c.units.walk ++ n ∷ []) item.is)

-- the source is ready after one more unit
pub returns-in-Some-advance-clause-ready : goal.returns-in-Some-advance-clause-ready
returns-in-Some-advance-clause-ready g c =
    let view = g.W.Stepwise.sees in let S = g.S.Iterator in let unit = g.W.Unit.EdgeLabel in let taken = c.in-Some.ensures in
    let item = took_as_read g.W.Unit.AsciiFold.fold unit.unit g.met.W.Unit.AsciiFold.folds S.can_next S.next_gives S.remaining c.args.folds c.units.source c.in-Some.unit c.next_at.new.self taken.steps taken.goes in
    IsReady-more S.can_next S.next_gives S.remaining (unit_as_read c.args.folds unit.unit) unit.width c.units.source item.item c.next_at.new.self (view.read c.units.walk) (view.read c.advance.new.self) c.units.invariant.ready item.took item.goes
    (c.advance.ensures.read ∙ ap (λ n. view.read c.units.walk ++ n ∷ []) item.is)

-- nothing is found at the end of the unit
pub units-preserved : goal.units-preserved
units-preserved g c =
    let view = g.W.Stepwise.sees in let S = g.S.Iterator in let unit = g.W.Unit.EdgeLabel in
    let now = c.advance.new.self in let taken = c.in-Some.ensures in let stops = c.advance.ensures.stops in let was = c.units.invariant in
    let item = took_as_read g.W.Unit.AsciiFold.fold unit.unit g.met.W.Unit.AsciiFold.folds S.can_next S.next_gives S.remaining c.args.folds c.units.source c.in-Some.unit c.next_at.new.self taken.steps taken.goes in
    let read = c.advance.ensures.read ∙ ap (λ n. view.read c.units.walk ++ n ∷ []) item.is in
    let none : view.found (view.automaton now) (view.read now) ≡ [] = none_found (view.given_from now) stops.matches c.in_default-advance.is (g.met.W.Stepwise.no_output now).1 in
    record {
      over = (
        was.over.0 ++ item.item ∷ [],
        ScansOver-more was.over.1 item.took (item.goes.on was.ready.ends).2 c.advance.ensures.automaton read none,
      );
      ready = IsReady-more S.can_next S.next_gives S.remaining (unit_as_read c.args.folds unit.unit) unit.width c.units.source item.item c.next_at.new.self (view.read c.units.walk) (view.read now) was.ready item.took item.goes read;
      here = omega (arith, was.here, c.in-Some.ensures.place, ap (size unit.width) c.advance.ensures.read, size-push unit.width (view.read c.units.walk) (unit.unit c.in-Some.unit));
    }
