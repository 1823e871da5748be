-- Of each rank so far, but the root's, the link is told as the rank that it leads to, or as dead.
use Rattle.std.proofs.Common.{◌≡◌, length}
use Rattle.daachorse_checker.specs.Links.{AreLinkRanks}
use Rattle.daachorse_checker.proofs.links.link_ranks.Given as goal

abbrev pub invariant-loop-rank : goal.invariant-loop-rank
invariant-loop-rank g l = record {
  each : length l.fails.items ≡ l.rank;
  are : AreLinkRanks (g.E.Array.sees l.array).fail l.ranks.order.items l.fails.items;
}
