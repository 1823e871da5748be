-- The table is that of the patterns, since its bits are.
use Rattle.std.proofs.Common.{◌≡◌, ◌-◌, true, false, sym, ◌∙◌, arith}
use Rattle.daachorse_prefilter.specs.Building.{is_sparse}
use Rattle.daachorse_prefilter.proofs.Soundness.{sound, none_dense, some_sparse}
use Rattle.daachorse_prefilter.proofs.prefilter.builder.PrefilterBuilder.build.Goals as goal

pub returns-then-not-is_sparse-clause-made : goal.returns-then-not-is_sparse-clause-made
returns-then-not-is_sparse-clause-made g c patterns added =
    let b = c.args.self in
    let dense : is_sparse b.table (b.window_len - 1) ≡ false = sym (c.is_sparse.ensures b.table b.sized b.counted) ∙ c.if-not-is_sparse.true in
    none_dense b.table patterns b.window_len b.sized c.in_range.ensures.bytes added.shortest added.marked dense

pub invariant_of-result : goal.invariant_of-result
invariant_of-result g c = record { low = omega arith; high = c.args.self.short; sized = c.args.self.sized }

pub returns : goal.returns
returns g c =
    let b = c.args.self in
    record {
      made = λ patterns added.
          let sparse : is_sparse b.table (b.window_len - 1) ≡ true = sym (c.is_sparse.ensures b.table b.sized b.counted) ∙ c.if-not-is_sparse.false in
          some_sparse b.table patterns b.window_len b.sized c.in_range.ensures.bytes (sym added.none ∙ c.if-self.false) added.shortest (omega arith) added.marked sparse;
      sound = λ patterns added. sound b.table patterns b.window_len b.sized added.shortest (omega arith) added.marked;
    }
