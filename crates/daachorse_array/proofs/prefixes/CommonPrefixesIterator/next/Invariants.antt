-- What is left stays what it was; each round reads a unit.
use Rattle.std.proofs.Common.{◌≡◌, length}
use Rattle.daachorse_array.specs.Descents.{MayGoOn, matches_left}
use Rattle.daachorse_array.proofs.prefixes.CommonPrefixesIterator.next.Given as goal

abbrev pub invariant-units : goal.invariant-units
invariant-units g l =
    let s = l.self-inside in let width = g.L.Unit.EdgeLabel.width in let rest = g.H.Haystack.rest s.rest in
    record {
      left : matches_left width (g.L.Lookup.machine s.lookup.now) s.place s.values s.element rest ≡ l.fn.self;
      goes : MayGoOn width (g.L.Lookup.count s.lookup.now) s.place s.element rest;
    }

abbrev pub decreases-units : goal.decreases-units
decreases-units g l = length (g.H.Haystack.rest l.self-inside.rest)
