-- The children that were yielded are in the queue.
use Rattle.std.proofs.Common.{◌≡◌, ◌<◌, take, length, get_or}
use Rattle.daachorse_build.specs.Tables.{child_in, edges_of, stops_of}
use Rattle.daachorse_build.specs.Left.{IsLeftFailOf}
use Rattle.daachorse_build.specs.Orders.{IsLinkAmong, IsTraversal, children}
use Rattle.daachorse_build.proofs.nfa_builder.links.BreadthFirstTraversal.expand.Given as goal

-- as many children as have been yielded are in the queue
abbrev pub invariant-loop-label : goal.invariant-loop-label
invariant-loop-label g l = record {
  traversal : IsTraversal g.L.Ord.cmp (stops_of l.self.leftmost l.states) (edges_of l.states) (children (edges_of l.states) 0) l.self.links.items l.self.order.items l.self.next (take (length l.yielded) (children (edges_of l.states) l.id));
  next : l.self.next ≡ l.fn.self.next;
  more : l.self.next < length l.self.order.items;
  here : get_or l.self.order.items l.self.next 0 ≡ l.id;
  known : IsLinkAmong (take l.self.next l.self.order.items) l.start;
  link : IsLeftFailOf (child_in g.L.Ord.cmp (edges_of l.states)) (stops_of l.self.leftmost l.states) l.id l.start;
  kind : l.self.leftmost ≡ l.fn.self.leftmost;
  root : l.self.root_children.ids ≡ l.fn.self.root_children.ids;
}
