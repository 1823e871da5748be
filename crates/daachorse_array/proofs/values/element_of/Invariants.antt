-- The whole text leads to where what is left of it leads from the element that was come to.
use Rattle.std.proofs.Common.{◌≡◌, ◌<◌, length}
use Rattle.daachorse_model.specs.Paths.{walk}
use Rattle.daachorse_array.proofs.values.element_of.Given as goal

abbrev pub invariant-units : goal.invariant-units
invariant-units g l =
    let child = (g.L.Lookup.machine l.lookup).child in let rest = g.H.Haystack.rest in
    record {
      inside : l.element < g.L.Lookup.count l.lookup;
      still : walk child 0 (rest l.fn.text) ≡ walk child l.element (rest l.text);
    }

abbrev pub decreases-units : goal.decreases-units
decreases-units g l = length (g.H.Haystack.rest l.text)
