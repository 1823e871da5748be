-- Two tables are equal just where they are in memory.
use Rattle.std.proofs.Common.{ap, ◌∙◌}
use Rattle.std.specs.Prelude.{nat_eq}
use Rattle.std.specs.Cmp.Lexicographic.{pointwise}
use Rattle.daachorse_prefilter.specs.PairTables.{transposed_table}
use Rattle.daachorse_prefilter.proofs.PairTables.{transposed_eq}
use Rattle.daachorse_prefilter.proofs.prefilter.pair_table.PairTablePartialEq.eq.Goals as goal

pub returns : goal.returns
returns g c =
    let own = c.self.inside.items.items in
    let others = c.other.inside.items.items in
    c.eq.ensures
    ∙ transposed_eq own others c.self.invariant c.other.invariant
    ∙ ap (λ w. pointwise nat_eq w (transposed_table others)) c.self.view_is
    ∙ ap (λ w. pointwise nat_eq c.args.self.now w) c.other.view_is
