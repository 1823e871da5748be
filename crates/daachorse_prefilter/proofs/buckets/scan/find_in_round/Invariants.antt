-- The state shows the windows, and no bucket lets one of those pass that ended so far.
use Rattle.std.proofs.Common.{◌+◌, ◌*◌}
use Rattle.daachorse_prefilter.specs.BucketScans.{Shows, NoneWithin}
use Rattle.daachorse_prefilter.proofs.buckets.scan.find_in_round.Given as goal

abbrev pub invariant-loop-j : goal.invariant-loop-j
invariant-loop-j l = record {
  shows : Shows l.entries l.haystack l.pos l.stride (l.place + l.j * l.stride) l.state;
  none : NoneWithin l.entries l.haystack l.pos l.place (l.place + l.j * l.stride);
}

abbrev pub invariant-loop-d : goal.invariant-loop-d
invariant-loop-d l = NoneWithin l.entries l.haystack l.pos l.place (l.last + l.d)
