-- The array has what is near here, the rank to come to is on the way up from here, and what was saved is right all along it; each step
-- leads to an earlier rank, or above the root.
use Rattle.std.proofs.Common.{◌≡◌, ℕ, suc, ◌≤◌, ◌==◌, cond, length}
use Rattle.daachorse_array.specs.Near.{up, above, IsAbove, AreNear, IsSaved}
use Rattle.daachorse_array.proofs.trie.Trie.retreat.Given as goal

abbrev pub invariant-loop-here : goal.invariant-loop-here
invariant-loop-here g l = record {
  same : length l.near.items ≡ length l.fn.near.items;
  within : l.here ≤ length l.self.parents.items;
  kept : (j : ℕ) → IsSaved l.self.parents.items l.self.labels.items l.self.fails.items l.saved (above (up l.self.fails.items) j l.here);
  above : IsAbove (up l.self.fails.items) l.to l.here;
  near : AreNear l.self.parents.items l.self.labels.items l.self.fails.items l.near.items l.here;
}

abbrev pub decreases-loop-here : goal.decreases-loop-here
decreases-loop-here g l = cond (l.here == length l.self.parents.items) 0 (suc l.here)
