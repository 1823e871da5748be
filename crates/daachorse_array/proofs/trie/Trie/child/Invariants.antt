-- None of the children of the rank that were looked at has the label.
use Rattle.std.proofs.Common.{◌≡◌, ◌≢◌, ℕ, ◌+◌, ◌<◌, ◌≤◌, get_or}
use Rattle.daachorse_array.proofs.trie.Trie.child.Given as goal

abbrev pub invariant-loop-m : goal.invariant-loop-m
invariant-loop-m g l = record {
  end : l.end ≡ get_or l.starts (l.p + 1) 0;
  none : (k : ℕ) → get_or l.starts l.p 0 ≤ k → k < l.m → get_or l.self.labels.items k 0 ≢ l.label;
}
