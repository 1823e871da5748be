-- While nothing is left of an element, the patterns that are left are those of the elements that are taken from here on.
use Rattle.std.proofs.Common.{◌≡◌, length, map}
use Rattle.daachorse_array.specs.Listing.{IsListingWalk, left_of, own_end}
use Rattle.daachorse_array.specs.Trees.{elements_of, taken_from}
use Rattle.daachorse_array.proofs.patterns.PatternWalkIterator.next.Given as goal

abbrev pub invariant-loop-self : goal.invariant-loop-self
invariant-loop-self g l =
    let s = l.self-inside in
    let view = g.E.Array.sees s.elements in
    let outputs = g.E.Keys.outputs s.elements in
    record {
      walking : IsListingWalk view.child view.group view.edge view.count view.units outputs view.first (own_end view.fail view.first)
          s.groups s.aside.items (map g.E.Keys.number s.text.items) s.position;
      left : left_of view.child view.count view.units outputs view.first (own_end view.fail view.first)
          (map g.E.Keys.number s.text.items) (elements_of s.aside.items) s.stop s.position ≡ l.fn.self;
    }

abbrev pub decreases-loop-self : goal.decreases-loop-self
decreases-loop-self g l =
    let s = l.self-inside in
    let view = g.E.Array.sees s.elements in
    length (taken_from view.child view.count view.units view.count (elements_of s.aside.items))
