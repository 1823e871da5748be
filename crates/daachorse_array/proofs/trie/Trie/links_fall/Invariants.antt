-- The link of each rank so far, but the root, leads to an earlier rank or is dead.
use Rattle.std.proofs.Common.{◌≡◌, ℕ, ◌<◌, ◌⊎◌, length, get_or}
use Rattle.daachorse_array.proofs.trie.Trie.links_fall.Given as goal

abbrev pub invariant-loop-m : goal.invariant-loop-m
invariant-loop-m g l = record {
  fall : (k : ℕ) → 0 < k → k < l.m → (get_or l.self.fails.items k 0 < k) ⊎ (get_or l.self.fails.items k 0 ≡ length l.self.fails.items);
}
