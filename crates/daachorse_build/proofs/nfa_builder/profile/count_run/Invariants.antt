-- The search is at a state, and a place that it remembers has been passed.
use Rattle.std.proofs.Common.{◌≡◌, ◌≢◌, ◌<◌, ◌≤◌, length, IfSome}
use Rattle.daachorse_build.specs.Counts.{HasSameCounts, HasCountedMore}
use Rattle.daachorse_build.proofs.nfa_builder.profile.count_run.Given as goal

abbrev pub invariant-loop-place : goal.invariant-loop-place
invariant-loop-place g l = record {
  counted : HasCountedMore l.fn.profile l.profile;
  begun : l.place ≡ 0 → HasSameCounts l.fn.profile l.profile;
  state : l.id < length l.states;
  alive : l.id ≢ 1;
  match : IfSome l.match_end (λ n. (0 < n) × (n ≤ l.place));
}
