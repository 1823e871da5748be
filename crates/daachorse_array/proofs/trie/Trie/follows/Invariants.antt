-- Each rank so far, but the root, has the link that is right by what is near above its parent.
use Rattle.std.proofs.Common.{◌≡◌, ℕ, ◌<◌, length, get_or}
use Rattle.daachorse_array.specs.Near.{right}
use Rattle.daachorse_array.proofs.trie.Trie.follows.Given as goal

abbrev pub invariant-loop-m : goal.invariant-loop-m
invariant-loop-m g l = record {
  checked : (k : ℕ) → 0 < k → k < l.m → k < length l.self.parents.items
      → get_or l.self.fails.items k 0 ≡ right l.self.parents.items l.self.labels.items l.self.stops.items l.self.fails.items
      (get_or l.self.parents.items k 0) k (get_or l.self.labels.items k 0);
}
