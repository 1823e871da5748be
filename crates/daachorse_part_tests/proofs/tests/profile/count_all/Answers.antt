-- There stay as many counts.
use Rattle.std.proofs.Common.{length}
use Rattle.daachorse_build.proofs.GrownCounts.{counts_stay}
use Rattle.daachorse_part_tests.proofs.tests.profile.count_all.Goals as goal

pub loop-document-preserved : goal.loop-document-preserved
loop-document-preserved g c =
    counts_stay (length c.args.builder.now.states) c.loop-document.profile c.profile_haystack.new.profile c.loop-document.invariant c.profile_haystack.ensures.counted
