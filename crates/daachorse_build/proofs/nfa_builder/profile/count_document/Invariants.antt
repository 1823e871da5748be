-- Each search begins later than the one before it.
use Rattle.std.proofs.Common.{◌≡◌, [], length}
use Rattle.daachorse_build.specs.Counts.{HasSameCounts, HasCountedMore}
use Rattle.daachorse_build.proofs.nfa_builder.profile.count_document.Given as goal

abbrev pub invariant-loop-taken : goal.invariant-loop-taken
invariant-loop-taken g l = record {
  counted : HasCountedMore l.fn.profile l.profile;
  empty : l.haystack ≡ [] → (l.rest ≡ []) × HasSameCounts l.fn.profile l.profile;
}

abbrev pub decreases-loop-taken : goal.decreases-loop-taken
decreases-loop-taken g l = length l.rest
