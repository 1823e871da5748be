-- No rank passed on the way up has a child by the label, so what is near above the parent is near here, and the rank below tells what the
-- link is where nothing is; each round leaves fewer steps.
use Rattle.std.proofs.Common.{get_or}
use Rattle.daachorse_array.specs.Following.{IsFollowing}
use Rattle.daachorse_array.proofs.trie.Trie.followed.Given as goal

abbrev pub invariant-loop-here : goal.invariant-loop-here
invariant-loop-here g l = record {
  is : IsFollowing l.self.parents.items l.self.labels.items l.self.stops.items l.self.fails.items (get_or l.self.parents.items l.m 0)
      (get_or l.self.labels.items l.m 0) l.below l.here;
}

abbrev pub decreases-loop-here : goal.decreases-loop-here
decreases-loop-here g l = l.left
