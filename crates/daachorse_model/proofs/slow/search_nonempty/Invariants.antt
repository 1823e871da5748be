-- What was found, and what the units from here on give where the search goes on behind the last match, is what all units give.
use Rattle.std.proofs.Common.{◌≡◌, ◌≤◌, ◌++◌, [], take, drop}
use Rattle.daachorse_model.specs.Units.{size}
use Rattle.daachorse_model.specs.Dictionary.{values_of, registrations_of}
use Rattle.daachorse_model.specs.Matches.{standard_from}
use Rattle.daachorse_model.specs.Slow.{width_of}
use Rattle.daachorse_model.proofs.slow.search_nonempty.Given as goal

abbrev pub invariant-loop-read : goal.invariant-loop-read
invariant-loop-read g l =
    let width = width_of l.width in
    let K = values_of (registrations_of l.patterns) in
    (l.resume ≤ l.read)
    × (l.found.items ++ standard_from width K (size width (take l.resume l.haystack)) (drop l.resume (take l.read l.haystack)) (drop l.read l.haystack) ≡ standard_from width K 0 [] l.haystack)
