-- Each entry is a copy of 255, whatever the order.
use Rattle.std.proofs.Common.{◌≡◌, length, vec_len, arith}
use Rattle.daachorse_prefilter.proofs.PairTables.{length-transposed_table, transposed_copies}
use Rattle.daachorse_prefilter.proofs.prefilter.pair_table.PairTable.new.Goals as goal

pub returns-clause-sized : goal.returns-clause-sized
returns-clause-sized g c = length-transposed_table c.in_ok-vec.field-0.items

pub returns-clause-full : goal.returns-clause-full
returns-clause-full g c =
    let size : vec_len c.in_ok-vec.field-0 ≡ 65536 = c.in_ok-vec.ensures.len in
    let items : vec_len c.in_ok-vec.field-0 ≡ length c.in_ok-vec.field-0.items = c.in_ok-vec.field-0.ok.0 in
    transposed_copies (λ x y. y ≡ x) 255 c.in_ok-vec.field-0.items (λ y is. is) (omega arith) c.in_ok-vec.ensures.items
