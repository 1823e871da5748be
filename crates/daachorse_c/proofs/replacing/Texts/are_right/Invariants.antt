-- The ends are right where those that are left are.
use Rattle.std.proofs.Common.{◌↔◌, drop, length}
use Rattle.daachorse_c.specs.Patterns.{AreEnds}
use Rattle.daachorse_c.proofs.replacing.Texts.are_right.Given as goal

abbrev pub invariant-loop-end : goal.invariant-loop-end
invariant-loop-end l = record {
  left : AreEnds l.start (length l.self.bytes.now) (drop l.end-index l.self.ends.now) ↔ AreEnds 0 (length l.self.bytes.now) l.self.ends.now;
}
