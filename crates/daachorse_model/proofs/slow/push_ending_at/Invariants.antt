-- What was found, and what the starts from here on give, is what all starts give.
use Rattle.std.proofs.Common.{◌≡◌, ◌+◌, ◌++◌, drop}
use Rattle.daachorse_model.specs.Units.{size}
use Rattle.daachorse_model.specs.Dictionary.{values_of, registrations_of}
use Rattle.daachorse_model.specs.Matches.{ending_at}
use Rattle.daachorse_model.specs.Slow.{width_of}
use Rattle.daachorse_model.proofs.slow.push_ending_at.Given as goal

abbrev pub invariant-loop-skipped : goal.invariant-loop-skipped
invariant-loop-skipped g l =
    (l.from + size (width_of l.width) (drop l.skipped l.text) ≡ l.end)
    × (l.found.items ++ ending_at (width_of l.width) (values_of (registrations_of l.patterns)) l.from l.end (drop l.skipped l.text)
    ≡ l.fn.found.items ++ ending_at (width_of l.width) (values_of (registrations_of l.patterns)) l.start l.end l.text)
