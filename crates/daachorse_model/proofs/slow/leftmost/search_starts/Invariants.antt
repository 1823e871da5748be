-- What was found, and what the places from here on give, is what all places give.
use Rattle.std.proofs.Common.{◌≡◌, ◌++◌, take, drop}
use Rattle.daachorse_model.specs.Units.{size}
use Rattle.daachorse_model.specs.Dictionary.{values_of, registrations_of}
use Rattle.daachorse_model.specs.Leftmost.{leftmost_from, leftmost}
use Rattle.daachorse_model.specs.Slow.{width_of}
use Rattle.daachorse_model.proofs.slow.leftmost.search_starts.Given as goal

abbrev pub invariant-loop-read : goal.invariant-loop-read
invariant-loop-read g l =
    let width = width_of l.width in
    let K = values_of (registrations_of l.patterns) in
    l.found.items ++ leftmost_from width K (size width (take l.read l.haystack)) l.skip l.after (drop l.read l.haystack) ≡ leftmost width K l.haystack
