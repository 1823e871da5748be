-- The longest pattern is the last past the place, or else the best so far; each round reads a unit.
use Rattle.std.proofs.Common.{◌≡◌, ◌+◌, ◌<◌, ◌^◌, Some, length}
use Rattle.std.specs.Option.{option_or}
use Rattle.daachorse_model.specs.Units.{size}
use Rattle.daachorse_array.specs.Machines.{content}
use Rattle.daachorse_array.specs.Lookups.{longest_prefix}
use Rattle.daachorse_array.proofs.DescentLaws.{best_past}
use Rattle.daachorse_array.proofs.longest.longest_prefix.Given as goal

abbrev pub invariant-units : goal.invariant-units
invariant-units g l =
    let width = g.L.Unit.EdgeLabel.width in let machine = g.L.Lookup.machine l.lookup in let rest = g.H.Haystack.rest in
    record {
      inside : l.element < g.L.Lookup.count l.lookup;
      best : longest_prefix width (content width machine) (rest l.fn.text) ≡ option_or (best_past width machine l.place (Some l.element) (rest l.text)) l.best;
      fits : l.place + size width (rest l.text) < 2 ^ 64;
    }

abbrev pub decreases-units : goal.decreases-units
decreases-units g l = length (g.H.Haystack.rest l.text)
