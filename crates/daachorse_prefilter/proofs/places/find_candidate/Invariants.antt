-- No place passes before that from which the search goes on.
use Rattle.std.proofs.Common.{◌-◌, ◌≤◌}
use Rattle.daachorse_prefilter.proofs.Candidates.{NoneBefore, both}
use Rattle.daachorse_prefilter.proofs.places.find_candidate.Given as goal

abbrev pub invariant-loop-from : goal.invariant-loop-from
invariant-loop-from g l = record {
  low : l.pos ≤ l.from;
  none : NoneBefore (both l.buckets l.filter) (g.R.ByteReading.read l.haystack) l.pos l.from;
}

abbrev pub decreases-loop-from : goal.decreases-loop-from
decreases-loop-from g l = l.near - l.from
