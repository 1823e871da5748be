-- What stays of the patterns so far, and what stays of those that are left, is what stays of all.
use Rattle.std.proofs.Common.{◌≡◌, ◌++◌, [], take, drop}
use Rattle.daachorse_model.specs.Dictionary.{without_extensions, registrations_of}
use Rattle.daachorse_model.proofs.SlowLeftmost.{texts_before}
use Rattle.daachorse_model.proofs.slow.leftmost.drop_extensions.Given as goal

abbrev pub invariant-loop-index : goal.invariant-loop-index
invariant-loop-index g l =
    registrations_of l.rest.items ++ without_extensions (texts_before (registrations_of (take l.index l.patterns)) []) (registrations_of (drop l.index l.patterns)) ≡ without_extensions [] (registrations_of l.patterns)
