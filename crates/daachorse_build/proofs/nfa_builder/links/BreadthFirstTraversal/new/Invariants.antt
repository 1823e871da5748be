-- The children of the root that were passed are in the queue, with their links.
use Rattle.std.proofs.Common.{take, length, []}
use Rattle.daachorse_build.specs.Tables.{edges_of, stops_of}
use Rattle.daachorse_build.specs.Orders.{IsTraversal, children}
use Rattle.daachorse_build.proofs.nfa_builder.links.BreadthFirstTraversal.new.Given as goal

abbrev pub invariant-loop-child : goal.invariant-loop-child
invariant-loop-child g l = IsTraversal g.L.Ord.cmp (stops_of l.leftmost l.states) (edges_of l.states) (take (length l.yielded) (children (edges_of l.states) 0)) l.links.items l.order.items 0 []
