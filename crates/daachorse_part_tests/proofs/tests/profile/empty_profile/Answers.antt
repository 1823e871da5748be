-- There are as many counts as were asked for.
use Rattle.daachorse_build.proofs.GrownCounts.{counts_resized}
use Rattle.daachorse_part_tests.proofs.tests.profile.empty_profile.Goals as goal

pub returns : goal.returns
returns c =
    counts_resized c.args.num_states c.new-profile.result c.resize.new.self c.in_ok-resize.ensures.visits c.in_ok-resize.ensures.probes
