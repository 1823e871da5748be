-- The size of the beginning that was read fits.
use Rattle.std.proofs.Common.{◌≡◌, ◌≤◌, map, take}
use Rattle.daachorse_model.specs.Units.{size}
use Rattle.daachorse_build.proofs.nfa_builder.adding.pattern_size.Given as goal

-- the size of the beginning that was read
abbrev pub invariant-loop-label : goal.invariant-loop-label
invariant-loop-label g l = record {
  sum : l.size ≡ size g.L.EdgeLabel.width (map g.L.EdgeLabel.unit (take l.label-index l.pattern));
  within : l.size ≤ 4294967295;
}
