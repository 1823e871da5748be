-- A search begins with all that is given of each beginning of the haystack.
use Rattle.std.proofs.Common.{ap}
use Rattle.daachorse_search.specs.Skipping.{next_position}
use Rattle.daachorse_search.proofs.SkipLaws.{left_first}
use Rattle.daachorse_search.proofs.matches.Matches.with_filter.Goals as goal

pub returns-clause-left : goal.returns-clause-left
returns-clause-left g c =
    let view = g.W.Stepwise.sees in let rest = g.H.Haystack.rest in
    left_first g.W.Unit.EdgeLabel.width view (rest c.of-2.result.value) (rest c.args.haystack) c.args.walk (next_position c.place_first-first.result.0 c.place_first-first.result.1) (ap rest c.of-2.ensures) c.requires.begins c.place_first-first.ensures.stops
