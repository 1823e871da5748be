-- There are as many counts as states.
use Rattle.std.proofs.Common.{length}
use Rattle.daachorse_build.specs.Counts.{HasCounts}
use Rattle.daachorse_part_tests.proofs.tests.profile.count_all.Given as goal

abbrev pub invariant-loop-document : goal.invariant-loop-document
invariant-loop-document g l = HasCounts (length l.builder.states) l.profile
