-- What is left to find is what there was to find at first, further on by the units skipped, and a filter that is open and passes nowhere leaves no turn to take; each round takes a unit off the rest.
use Rattle.std.proofs.Common.{◌≡◌, ◌+◌, ℕ, List, [], length}
use Rattle.daachorse_search.specs.Skipping.{HasNoPlace, SkipsTo}
use Rattle.daachorse_search.proofs.matches.read_past.Given as goal

abbrev pub invariant-units : goal.invariant-units
invariant-units g l =
    let view = g.W.Stepwise.sees in let F = g.F.Filter in let rest = g.H.Haystack.rest in
    record {
      passes : (w : List ℕ) → F.passes l.filter w ≡ F.passes l.fn.filter w;
      skips : SkipsTo g.W.Unit.EdgeLabel.width view (F.passes l.fn.filter) l.fn.walk (rest l.fn.rest) l.fn.taken [] l.walk (rest l.rest) l.taken;
      idle : HasNoPlace (F.passes l.fn.filter) (F.opened l.fn.filter) (view.read l.fn.walk) (rest l.fn.rest) →
          (l.taken + view.turns l.walk ≡ l.fn.taken + view.turns l.fn.walk) × HasNoPlace (F.passes l.fn.filter) (F.opened l.filter) (view.read l.walk) (rest l.rest);
    }

abbrev pub decreases-units : goal.decreases-units
decreases-units g l = length (g.H.Haystack.rest l.rest)
