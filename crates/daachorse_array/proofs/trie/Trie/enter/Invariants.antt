-- The children that were looked at have the right links and are near, what was near by their labels is saved, and by the other labels there
-- still is what is near above the rank.
use Rattle.std.proofs.Common.{◌≡◌, ◌+◌, length, get_or}
use Rattle.daachorse_array.specs.Tours.{IsEntering}
use Rattle.daachorse_array.proofs.trie.Trie.enter.Given as goal

abbrev pub invariant-loop-m : goal.invariant-loop-m
invariant-loop-m g l = record {
  same : length l.near.items ≡ length l.fn.near.items;
  size : length l.saved.items ≡ length l.fn.saved.items;
  end : l.end ≡ get_or l.starts (l.p + 1) 0;
  is : IsEntering l.self.parents.items l.self.labels.items l.self.stops.items l.self.fails.items l.near.items l.saved.items l.fn.saved.items
      l.p l.m;
}
