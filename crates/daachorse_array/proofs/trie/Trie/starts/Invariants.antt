-- The starts so far are right, and those of the parents of all ranks so far are among them; one loop goes on by a rank, and the others add
-- a start until that parent, or every rank, has one.
use Rattle.std.proofs.Common.{◌≡◌, ℕ, suc, ◌<◌, ◌≤◌, ◌-◌, length, get_or}
use Rattle.daachorse_array.specs.Ranks.{AreStartsTo}
use Rattle.daachorse_array.proofs.trie.Trie.starts.Given as goal

abbrev pub invariant-loop-m : goal.invariant-loop-m
invariant-loop-m g l = record {
  is : l.count ≡ length l.self.parents.items;
  to : AreStartsTo l.self.parents.items l.starts.items (length l.starts.items);
  past : (k : ℕ) → 0 < k → k < l.m → k < length l.self.parents.items → get_or l.self.parents.items k 0 < length l.starts.items;
  most : length l.starts.items ≤ length l.self.parents.items;
}

abbrev pub invariant-loop-parent : goal.invariant-loop-parent
invariant-loop-parent g l = record {
  to : AreStartsTo l.self.parents.items l.starts.items (length l.starts.items);
  past : (k : ℕ) → 0 < k → k < l.m → k < length l.self.parents.items → get_or l.self.parents.items k 0 < length l.starts.items;
  most : length l.starts.items ≤ length l.self.parents.items;
}

abbrev pub decreases-loop-parent : goal.decreases-loop-parent
decreases-loop-parent g l = suc l.parent - length l.starts.items

abbrev pub invariant-loop-starts : goal.invariant-loop-starts
invariant-loop-starts g l = record {
  to : AreStartsTo l.self.parents.items l.starts.items (length l.starts.items);
  past : (k : ℕ) → 0 < k → k < length l.self.parents.items → get_or l.self.parents.items k 0 < length l.starts.items;
  most : length l.starts.items ≤ suc (length l.self.parents.items);
}

abbrev pub decreases-loop-starts : goal.decreases-loop-starts
decreases-loop-starts g l = suc l.count - length l.starts.items
