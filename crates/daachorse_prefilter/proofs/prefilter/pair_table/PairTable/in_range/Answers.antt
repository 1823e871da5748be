-- What is known of the bytes in memory is known of them in each order.
use Rattle.std.proofs.Common.{◌<◌, ◌^◌, ℕ, List, length, get_or, sym, ap, ◌∙◌, subst}
use Rattle.daachorse_prefilter.proofs.PairTables.{length-transposed_table, transposed_bytes}
use Rattle.daachorse_prefilter.proofs.prefilter.pair_table.PairTable.in_range.Goals as goal

pub returns-clause-sized : goal.returns-clause-sized
returns-clause-sized g c = ap length (sym c.self.view_is) ∙ length-transposed_table c.self.inside.items.items

pub returns-clause-bytes : goal.returns-clause-bytes
returns-clause-bytes g c =
    let P : List ℕ → Type 0 = λ w. (k : ℕ) → get_or w k 0 < 2 ^ 8 in
    let bytes : P c.self.inside.items.items = subst P c.deref.ensures.value c.bytes_in_range.ensures in
    subst P c.self.view_is (transposed_bytes c.self.inside.items.items bytes)
