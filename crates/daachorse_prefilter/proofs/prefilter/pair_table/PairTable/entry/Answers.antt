-- The entry of a pair stands in memory where that of the transposed pair stands in the written order.
use Rattle.std.proofs.Common.{get_or, ap, ◌∙◌, arith}
use Rattle.std.proofs.lemmas.List.{get_or_read}
use Rattle.daachorse_prefilter.specs.PairTables.{transposed}
use Rattle.daachorse_prefilter.proofs.PairTables.{get_or-transposed_back}
use Rattle.daachorse_prefilter.proofs.prefilter.pair_table.PairTable.entry.Goals as goal

pub returns : goal.returns
returns g c =
    let items = c.self.inside.items.items in
    let pair = c.args.pair in
    get_or_read items pair c.index.result.now (omega (arith, c.self.invariant)) c.index.ensures 0
    ∙ get_or-transposed_back items pair (omega arith)
    ∙ ap (λ w. get_or w (transposed pair) 0) c.self.view_is
