-- The states of an order have come off the stack, and those with an edge have their groups.
use Rattle.std.proofs.Common.{◌≡◌, List, ℕ}
use Rattle.std.specs.List.{filter}
use Rattle.daachorse_build.specs.Tables.{edges_of}
use Rattle.daachorse_build.specs.Groups.{has_edges, parents_of, IsStackWalk, AreFamilies, AreWeighed}
use Rattle.daachorse_build.proofs.StackWalk.{work}
use Rattle.daachorse_build.proofs.nfa_builder.siblings.groups_of.Given as goal

abbrev pub invariant-loop-id : goal.invariant-loop-id
invariant-loop-id g l = record {
  walk : (order : List ℕ) × IsStackWalk (edges_of l.states) order l.stack.items × (parents_of l.groups.items ≡ filter (has_edges (edges_of l.states)) order);
  families : AreFamilies (goal.F-post g l.map_label) (edges_of l.states) l.groups.items;
  weights : AreWeighed (edges_of l.states) l.profile l.groups.items;
}

abbrev pub decreases-loop-id : goal.decreases-loop-id
decreases-loop-id g l = work (edges_of l.states) l.stack.items
