-- Until the byte at a place no window passed, and the state has the bits of the windows that are still open.
use Rattle.std.proofs.Common.{◌+◌, map}
use Rattle.daachorse_prefilter.specs.Scans.{AreBits, NonePasses}
use Rattle.daachorse_prefilter.proofs.prefilter.scan.scan_rest.Given as goal

abbrev pub invariant-loop-place : goal.invariant-loop-place
invariant-loop-place g l = let text = map g.R.ByteReading.as_read l.haystack in record {
  bits : AreBits l.table text l.last l.pos (l.place + 1) l.state;
  none : NonePasses l.table text (l.last + 2) l.pos (l.place + 1);
}
