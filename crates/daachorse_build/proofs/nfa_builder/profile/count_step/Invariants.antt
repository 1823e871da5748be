-- More was counted, and each link leads nearer to the root.
use Rattle.std.proofs.Common.{◌≢◌, ◌<◌, length}
use Rattle.daachorse_build.specs.Tables.{edges_of, fails_of}
use Rattle.daachorse_build.specs.Counts.{HasCountedMore}
use Rattle.daachorse_build.proofs.LinksBack.{links_from}
use Rattle.daachorse_build.proofs.nfa_builder.profile.count_step.Given as goal

abbrev pub invariant-loop-next : goal.invariant-loop-next
invariant-loop-next g l = record {
  counted : HasCountedMore l.fn.profile l.profile;
  state : l.id < length l.states;
  alive : l.id ≢ 1;
}

abbrev pub decreases-loop-next : goal.decreases-loop-next
decreases-loop-next g l = links_from (length (edges_of l.states)) (fails_of l.states) l.id
