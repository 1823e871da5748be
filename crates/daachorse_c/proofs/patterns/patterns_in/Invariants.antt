-- The patterns that were read and those that are left are all, and the ends are in order where those that are left are.
use Rattle.std.proofs.Common.{◌≡◌, ◌++◌, length, drop}
use Rattle.daachorse_model.specs.Dictionary.{registrations_of}
use Rattle.daachorse_c.specs.Patterns.{AreEnds, registrations}
use Rattle.daachorse_c.proofs.patterns.patterns_in.Given as goal

abbrev pub invariant-loop-i : goal.invariant-loop-i
invariant-loop-i l = record {
  all : registrations l.bytes 0 l.ends l.values ≡ registrations_of l.patterns.items ++ registrations l.bytes l.start (drop l.i l.ends) (drop l.i l.values);
  if_left : AreEnds l.start (length l.bytes) (drop l.i l.ends) → AreEnds 0 (length l.bytes) l.ends;
  left : AreEnds 0 (length l.bytes) l.ends → AreEnds l.start (length l.bytes) (drop l.i l.ends);
}
