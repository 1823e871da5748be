-- The elements of a right machine, of which few texts are counted, are a tree.
use Rattle.std.proofs.Common.{ℕ, ◌<◌, Bool, length, arith}
use Rattle.daachorse_array.specs.Machines.{Machine, IsMachine, IsCounted}
use Rattle.daachorse_array.proofs.CountLaws.{shorter-counted}
use Rattle.daachorse_array.specs.Edges.{IsTree}

pub machine_tree : {V : Type 0} (width : ℕ → ℕ) (a : Machine V) (leftmost : Bool) (n m k : ℕ) → IsMachine width a leftmost n m → IsCounted a k → k < 4294967296 → IsTree a.child n m
machine_tree width a leftmost n m k machine counted few = record {
  some = machine.some;
  inside = machine.inside;
  one_path = machine.right.one_path;
  shallow = λ i w e. (let less : length w < k = shorter-counted a.child k counted w i e in omega (arith, less, few));
}
