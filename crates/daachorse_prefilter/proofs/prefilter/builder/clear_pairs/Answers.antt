-- One pair more is let stand with each byte.
use Rattle.std.proofs.Common.{◌≡◌, ◌⊎◌, ◌+◌, ◌-◌, ◌*◌, ◌<◌, ◌≤◌, length, get_or, inl, inr, arith}
use Rattle.std.proofs.lemmas.Bool.{cases_lt}
use Rattle.std.proofs.lemmas.List.{length-set}
use Rattle.daachorse_prefilter.specs.PairTables.{transposed}
use Rattle.daachorse_prefilter.proofs.Counting.{counted_more}
use Rattle.daachorse_prefilter.proofs.Marking.{marked_step, marked_end}
use Rattle.daachorse_prefilter.proofs.PairTables.{transposed_is}
use Rattle.daachorse_prefilter.proofs.prefilter.builder.clear_pairs.Goals as goal

pub loop-i-preserved : goal.loop-i-preserved
loop-i-preserved g c =
    let i = c.loop-i.i in
    let w = c.args.window.now in
    let table = c.loop-i.table in
    let counts = c.loop-i.counts in
    let pair = transposed c.pair_of-pair.result in
    let e = c.entry-entry.result in
    let a = (c.type_inv.window (i - 1)).fits in
    let b = (c.type_inv.window i).fits in
    let is : pair ≡ get_or w (i - 1) 0 * 256 + get_or w i 0 = transposed_is (get_or w (i - 1) 0) (get_or w i 0) c.pair_of-pair.result
    (omega arith) c.pair_of-pair.ensures in
    let size : length table ≡ 65536 = c.loop-i.invariant.sized in
    let inside : pair < length table = omega arith in
    let offsets : length counts ≡ length c.args.counts.now = c.loop-i.auto.counts in
    record {
      near = omega arith;
      sized = rw (c.set_entry.ensures, length-set) size;
      counted = rw c.set_entry.ensures
          (counted_more table counts (i - 1) pair e (omega arith) (omega arith) inside c.entry-entry.ensures c.loop-i.invariant.counted);
      marked = rw c.set_entry.ensures
          (marked_step c.args.table.now table w i pair e (omega arith)
          (omega arith) is inside c.entry-entry.ensures c.loop-i.invariant.marked);
    }

pub returns-clause-marked : goal.returns-clause-marked
returns-clause-marked g c =
    let which : (c.loop-i.i ≤ length c.args.window.now) ⊎ (c.loop-i.i ≡ 1) =
    elim (cases_lt (length c.args.window.now) 1) as (λ _. (c.loop-i.i ≤ length c.args.window.now)
    ⊎ (c.loop-i.i ≡ 1)) [ inl h ↦ inr (omega arith) | inr h ↦ inl (omega arith) ] in
    marked_end c.args.table.now c.loop-i.table c.args.window.now c.loop-i.i (omega arith) which c.loop-i.invariant.marked
