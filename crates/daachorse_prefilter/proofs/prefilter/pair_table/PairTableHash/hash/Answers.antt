-- A table that is transposed twice is the one in memory.
use Rattle.std.proofs.Common.{◌≡◌, sym, ap, ◌∙◌}
use Rattle.daachorse_prefilter.specs.PairTables.{transposed_table}
use Rattle.daachorse_prefilter.proofs.PairTables.{transposed_table_twice}
use Rattle.daachorse_prefilter.proofs.prefilter.pair_table.PairTableHash.hash.Goals as goal

pub returns : goal.returns
returns g c =
    let same : transposed_table c.args.self.now ≡ c.self.inside.items.items = ap transposed_table (sym c.self.view_is)
    ∙ transposed_table_twice c.self.inside.items.items c.self.invariant in
    rw same c.hash.ensures
