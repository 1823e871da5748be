-- The traversal holds between two states; it ends since no state is queued twice.
use Rattle.std.proofs.Common.{◌≡◌, ◌-◌, length, []}
use Rattle.daachorse_build.specs.Tables.{edges_of}
use Rattle.daachorse_build.specs.Traversals.{Traverses, AreRootChildren}
use Rattle.daachorse_build.proofs.nfa_builder.links.link_states.Given as goal

-- what was left so far is in the traversal
abbrev pub invariant-loop-traversal : goal.invariant-loop-traversal
invariant-loop-traversal g l = record {
  traversal : Traverses g.L.Ord.cmp l.states l.traversal [];
  kind : l.traversal.leftmost ≡ l.fn.leftmost;
  root : AreRootChildren g.L.Ord.cmp g.L.EdgeLabel.unit (edges_of l.states) l.traversal.root_children.ids;
}

-- the states that are still to be left
abbrev pub decreases-loop-traversal : goal.decreases-loop-traversal
decreases-loop-traversal g l = length l.states - l.traversal.next
