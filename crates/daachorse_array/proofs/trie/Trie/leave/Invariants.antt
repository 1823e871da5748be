-- By the labels of the children that were looked at the array has again what is near above the rank, and by the others still what is near
-- the rank.
use Rattle.std.proofs.Common.{◌≡◌, ◌+◌, length, get_or}
use Rattle.daachorse_array.specs.Tours.{IsLeaving}
use Rattle.daachorse_array.proofs.trie.Trie.leave.Given as goal

abbrev pub invariant-loop-m : goal.invariant-loop-m
invariant-loop-m g l = record {
  same : length l.near.items ≡ length l.fn.near.items;
  end : l.end ≡ get_or l.starts (l.p + 1) 0;
  is : IsLeaving l.self.parents.items l.self.labels.items l.self.fails.items l.near.items l.p l.m;
}
