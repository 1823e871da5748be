-- The entry that is replaced stands in memory where that of the transposed pair stands in the written order.
use Rattle.std.proofs.Common.{set, ap, ◌∙◌, arith}
use Rattle.daachorse_prefilter.specs.PairTables.{transposed}
use Rattle.daachorse_prefilter.proofs.PairTables.{transposed_set}
use Rattle.daachorse_prefilter.proofs.prefilter.pair_table.PairTable.set_entry.Goals as goal

pub returns : goal.returns
returns g c =
    transposed_set c.self.inside.items.items c.args.pair c.args.entry (omega arith) c.self.invariant
    ∙ ap (λ w. set w (transposed c.args.pair) c.args.entry) c.self.view_is
