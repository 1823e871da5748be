-- No pattern so far is the text, so its first value is that among the patterns that are left.
use Rattle.std.proofs.Common.{◌≡◌, drop, slice_get}
use Rattle.daachorse_model.specs.Dictionary.{values_of, registrations_of}
use Rattle.daachorse_model.proofs.slow.first_value.Given as goal

abbrev pub invariant-loop-pattern : goal.invariant-loop-pattern
invariant-loop-pattern g l =
    slice_get (values_of (registrations_of (drop l.pattern-index l.patterns)) l.text) 0 ≡ slice_get (values_of (registrations_of l.patterns) l.text) 0
