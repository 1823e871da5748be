-- The walk read all units up to what is left and found nothing at the end of any, and where there were none it stands where it stood; each round takes one unit off what is left.
use Rattle.std.proofs.Common.{◌≡◌, ◌≤◌, [], length}
use Rattle.daachorse_search.specs.Matches.{ReadsTo}
use Rattle.daachorse_search.proofs.matches.read_units.Given as goal

abbrev pub invariant-units : goal.invariant-units
invariant-units g l =
    let view = g.W.Stepwise.sees in let rest = g.H.Haystack.rest in
    record {
      reads : ReadsTo view l.fn.walk (rest l.fn.rest) [] l.walk (rest l.rest);
      fewer : length (rest l.rest) ≤ length (rest l.fn.rest);
      over : rest l.fn.rest ≡ [] → l.walk ≡ l.fn.walk;
    }

abbrev pub decreases-units : goal.decreases-units
decreases-units g l = length (g.H.Haystack.rest l.rest)
