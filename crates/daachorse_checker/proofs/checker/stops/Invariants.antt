-- Of each rank so far it is told whether its element has an output of its own, which is where a leftmost machine stops.
use Rattle.std.proofs.Common.{◌≡◌, length}
use Rattle.daachorse_checker.specs.Chains.{AreStopsAt, machine_of}
use Rattle.daachorse_checker.proofs.checker.stops.Given as goal

abbrev pub invariant-loop-rank : goal.invariant-loop-rank
invariant-loop-rank g l = record {
  each : length l.stops.items ≡ l.rank;
  are : AreStopsAt (machine_of (g.E.Array.sees l.array) l.outputs) l.leftmost l.ranks.order.items l.sizes l.stops.items;
}
