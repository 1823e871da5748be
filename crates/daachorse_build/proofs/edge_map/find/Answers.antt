-- The labels of the edges rise, so the search ends between those below the label and those above it.
use Rattle.std.proofs.Common.{rules}
use Rattle.std.proofs.lemmas.Fn.{always_returns_same}
use Rattle.std.proofs.lemmas.Result.{MatchResult-weaker}
use Rattle.daachorse_build.proofs.EdgeLists.{searchable}
use Rattle.daachorse_build.proofs.edge_map.find.Goals as goal

pub returns-clause-place : goal.returns-clause-place
returns-clause-place g c =
    let rises = searchable g.L.Ord.cmp g.met.L.Ord.total c.args.edges.now c.args.label.now c.requires in
    let place = c.binary_search_by.ensures.position (λ e. g.L.Ord.cmp e.0 c.args.label.now) (always_returns_same _ _ _ (λ a r f' k. search rules)) in
    MatchResult-weaker c.binary_search_by.result place (λ i h. h) (λ i h. h rises)
