-- One unit more was read and nothing was found, or a match ends behind it.
use Rattle.std.proofs.Common.{◌≡◌, [], ap, arith, length}
use Rattle.daachorse_search.proofs.ScanLaws.{ReadsTo-one}
use Rattle.daachorse_search.proofs.ScanLaws.{none_found}
use Rattle.daachorse_search.proofs.matches.read_units.Goals as goal

pub returns-in-Some-advance : goal.returns-in-Some-advance
returns-in-Some-advance g c =
    let l = c.units in
    let one = g.met.H.Haystack.gives l.rest _ c.next.new.self c.in-Some.ensures.steps in
    let step = c.in-Some-advance.ensures in
    record {
      reads = ReadsTo-one l.invariant.reads one step.automaton step.read step.stops.matches;
      output = step.stops.place;
      ended = tt;
      fewer = omega (arith, l.invariant.fewer, ap length one);
      over = λ none. absurd (omega (arith, l.invariant.fewer, ap length one, ap length none));
    }

pub units-preserved : goal.units-preserved
units-preserved g c =
    let view = g.W.Stepwise.sees in let l = c.units in let now = c.advance.new.self in
    let one = g.met.H.Haystack.gives l.rest _ c.next.new.self c.in-Some.ensures.steps in
    let step = c.advance.ensures in
    let nothing : view.found (view.automaton now) (view.read now) ≡ [] = none_found (view.given_from now) step.stops.matches c.in_default-advance.is (g.met.W.Stepwise.no_output now).1 in
    record {
      reads = ReadsTo-one l.invariant.reads one step.automaton step.read nothing;
      fewer = omega (arith, l.invariant.fewer, ap length one);
      over = λ none. absurd (omega (arith, l.invariant.fewer, ap length one, ap length none));
    }
