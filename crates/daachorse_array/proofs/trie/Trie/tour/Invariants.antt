-- The list leads through the ranks so far, each once, and the link of each is on the link path of the one before it.
use Rattle.std.proofs.Common.{◌≡◌, length}
use Rattle.daachorse_array.specs.Near.{up}
use Rattle.daachorse_array.specs.Tours.{IsTour}
use Rattle.daachorse_array.proofs.trie.Trie.tour.Given as goal

abbrev pub invariant-loop-m : goal.invariant-loop-m
invariant-loop-m g l = record {
  is : l.count ≡ length l.self.fails.items;
  tour : IsTour (up l.self.fails.items) (length l.self.fails.items) l.next.items l.m;
}
