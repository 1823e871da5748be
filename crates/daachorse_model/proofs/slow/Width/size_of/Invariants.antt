-- The size so far and the size of the rest add up to the size of the whole.
use Rattle.std.proofs.Common.{◌≡◌, ◌+◌, drop}
use Rattle.daachorse_model.specs.Units.{size}
use Rattle.daachorse_model.specs.Slow.{width_of}
use Rattle.daachorse_model.proofs.slow.Width.size_of.Given as goal

abbrev pub invariant-loop-unit : goal.invariant-loop-unit
invariant-loop-unit l = l.size + size (width_of l.self) (drop l.unit-index l.text) ≡ size (width_of l.self) l.text
