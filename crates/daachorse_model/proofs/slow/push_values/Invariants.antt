-- The matches appended so far are those of the values that the patterns so far have for the part.
use Rattle.std.proofs.Common.{◌≡◌, ◌++◌, take}
use Rattle.daachorse_model.specs.Dictionary.{values_of, registrations_of}
use Rattle.daachorse_model.specs.Matches.{matches_of}
use Rattle.daachorse_model.proofs.slow.push_values.Given as goal

abbrev pub invariant-loop-text : goal.invariant-loop-text
invariant-loop-text g l = l.found.items ≡ l.fn.found.items ++ matches_of (values_of (registrations_of (take l.text-index l.patterns))) l.start l.end l.part
