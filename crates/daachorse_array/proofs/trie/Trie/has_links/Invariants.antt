-- The children of each rank that the tour has left have the right links, the array has what is near the last of these ranks, and what was
-- saved is right on its link path.
use Rattle.std.proofs.Common.{◌≡◌, length}
use Rattle.daachorse_array.specs.Tours.{IsTouring}
use Rattle.daachorse_array.proofs.trie.Trie.has_links.Given as goal

abbrev pub invariant-loop-k : goal.invariant-loop-k
invariant-loop-k g l = record {
  wide : length l.near.items ≡ l.alphabet;
  size : length l.saved.items ≡ length l.self.parents.items;
  touring : IsTouring l.self.parents.items l.self.labels.items l.self.stops.items l.self.fails.items l.tour.items l.near.items l.saved.items
      l._k l.here l.next l.other;
}
