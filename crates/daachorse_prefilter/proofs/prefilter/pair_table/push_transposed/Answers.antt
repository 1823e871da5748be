-- The entries of one byte more with each round.
use Rattle.std.proofs.Common.{◌≡◌, ◌+◌, ◌*◌, ◌++◌, sym, ap, ◌∙◌, arith, append-nil}
use Rattle.daachorse_prefilter.specs.PairTables.{first_transposed}
use Rattle.daachorse_prefilter.proofs.PairTables.{first_transposed_none, push_more}
use Rattle.daachorse_prefilter.proofs.prefilter.pair_table.push_transposed.Goals as goal

pub loop-byte-init : goal.loop-byte-init
loop-byte-init g c =
    let old = c.args.dst.now.items in
    sym (ap (λ w. old ++ w) (first_transposed_none c.args.entries.now) ∙ append-nil old)

pub loop-byte-preserved : goal.loop-byte-preserved
loop-byte-preserved g c =
    let next : (c.loop-byte.byte + 1) * 256 ≡ c.loop-byte.byte * 256 + 256 = omega arith in
    rw next (push_more c.args.dst.now.items c.loop-byte.dst.items c.extend_from_slice.new.self.items c.args.entries.now
    c.entries_behind.result (c.loop-byte.byte * 256) 256 c.loop-byte.invariant
    (omega arith) c.entries_behind.ensures c.in_ok-extend_from_slice.ensures.items)

pub returns-in_err-extend_from_slice-clause-kept : goal.returns-in_err-extend_from_slice-clause-kept
returns-in_err-extend_from_slice-clause-kept g c =
    (first_transposed c.args.entries.now (c.loop-byte.byte * 256), c.in_err-extend_from_slice.ensures.items ∙ c.loop-byte.invariant)

pub returns-clause-appends : goal.returns-clause-appends
returns-clause-appends g c =
    let all : c.loop-byte.byte * 256 ≡ 65536 = omega arith in
    c.loop-byte.invariant ∙ ap (λ n. c.args.dst.now.items ++ first_transposed c.args.entries.now n) all

pub returns-clause-kept : goal.returns-clause-kept
returns-clause-kept g c = (first_transposed c.args.entries.now (c.loop-byte.byte * 256), c.loop-byte.invariant)
