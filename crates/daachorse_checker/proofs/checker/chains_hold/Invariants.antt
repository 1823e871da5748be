-- The chain of the element at each rank before this one, but the root's, is right.
use Rattle.std.proofs.Common.{ℕ, ◌<◌, false, get_or}
use Rattle.daachorse_checker.specs.Chains.{IsChained, machine_of}
use Rattle.daachorse_checker.proofs.checker.chains_hold.Given as goal

abbrev pub invariant-loop-rank : goal.invariant-loop-rank
invariant-loop-rank g l = record {
  each : (k : ℕ) → 0 < k → k < l.rank → IsChained (machine_of (g.E.Array.sees l.array) l.outputs) (get_or l.leaves k false)
      (get_or l.sizes k 0) (get_or l.ranks.order.items k 0);
}
