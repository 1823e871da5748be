-- What was found, and what the ends from here on give, is what all ends give.
use Rattle.std.proofs.Common.{◌≡◌, ◌++◌, [], take, drop}
use Rattle.daachorse_model.specs.Dictionary.{values_of, registrations_of}
use Rattle.daachorse_model.specs.Matches.{at_each_end}
use Rattle.daachorse_model.specs.Slow.{width_of, matches_at_end}
use Rattle.daachorse_model.proofs.slow.search_each_end.Given as goal

abbrev pub invariant-loop-read : goal.invariant-loop-read
invariant-loop-read g l =
    let f = matches_at_end l.at_end (width_of l.width) (values_of (registrations_of l.patterns)) in
    l.found.items ++ at_each_end f (take l.read l.haystack) (drop l.read l.haystack) ≡ at_each_end f [] l.haystack
