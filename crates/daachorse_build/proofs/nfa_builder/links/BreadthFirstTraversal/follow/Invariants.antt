-- The label leads as far from the state that was reached as from the start; each link stands earlier in the order.
use Rattle.std.proofs.Common.{◌≡◌, List, [], ◌∷◌, ◌++◌, Some, take}
use Rattle.daachorse_build.specs.Tables.{child_in, edges_of, stops_of}
use Rattle.daachorse_build.specs.Orders.{IsKnown}
use Rattle.daachorse_model.specs.Paths.{walk}
use Rattle.daachorse_build.specs.Left.{long_unless_stop}
use Rattle.daachorse_build.proofs.Queue.{first_place}
use Rattle.daachorse_build.proofs.nfa_builder.links.BreadthFirstTraversal.follow.Given as goal

-- `id` is known, and the label leads as far from it as from `start`
abbrev pub invariant-loop-id : goal.invariant-loop-id
invariant-loop-id g l = record {
  known : IsKnown (take l.self.next l.self.order.items) l.id;
  same : (w : List g.row.L.Denot) → walk (child_in g.L.Ord.cmp (edges_of l.states)) 0 w ≡ Some l.start → (v : List g.row.L.Denot) × (walk (child_in g.L.Ord.cmp (edges_of l.states)) 0 v ≡ Some l.id) × (long_unless_stop (child_in g.L.Ord.cmp (edges_of l.states)) (stops_of l.self.leftmost l.states) (v ++ l.label ∷ []) ≡ long_unless_stop (child_in g.L.Ord.cmp (edges_of l.states)) (stops_of l.self.leftmost l.states) (w ++ l.label ∷ []));
}

-- a link that is alive stands before its state, and the root before all
abbrev pub decreases-loop-id : goal.decreases-loop-id
decreases-loop-id g l = first_place (0 ∷ l.self.order.items) l.id
