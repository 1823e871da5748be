-- The patterns that are left are those of the elements that are taken from here on.
use Rattle.std.proofs.Common.{◌≡◌, length, map}
use Rattle.daachorse_array.specs.Listing.{IsListingWalk, own_end, patterns_of}
use Rattle.daachorse_array.specs.Texts.{text_of}
use Rattle.daachorse_array.specs.Trees.{elements_of, taken_from}
use Rattle.daachorse_array.proofs.texts.TextWalk.advance.Given as goal

abbrev pub invariant-texts : goal.invariant-texts
invariant-texts g l =
    let s = l.self-inside in
    let view = g.E.Array.sees s.elements in
    let outputs = g.E.Keys.outputs s.elements in
    let stop = own_end view.fail view.first in
    record {
      walking : IsListingWalk view.child view.group view.edge view.count view.units outputs view.first stop s.groups s.aside.items (map
          g.E.Keys.number s.text.items) 0;
      left : patterns_of (text_of view.child view.units view.count) outputs view.first stop (taken_from view.child view.count view.units
          view.count (elements_of s.aside.items)) ≡ l.fn.self.left;
    }

abbrev pub decreases-texts : goal.decreases-texts
decreases-texts g l =
    let s = l.self-inside in
    let view = g.E.Array.sees s.elements in
    length (taken_from view.child view.count view.units view.count (elements_of s.aside.items))
