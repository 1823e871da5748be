-- Each pair more makes the next state.
use Rattle.std.proofs.Common.{◌≡◌, ◌+◌, map, length, ◌∙◌, arith}
use Rattle.std.proofs.lemmas.List.{length-map}
use Rattle.daachorse_prefilter.proofs.Pairs.{entry_read}
use Rattle.daachorse_prefilter.proofs.Scanned.{entry_in, pair_before, states_none, states_more, window_bits, ended_apart}
use Rattle.daachorse_prefilter.proofs.prefilter.scan.read_pairs.Goals as goal

pub loop-k-init : goal.loop-k-init
loop-k-init g c = record { read = states_none c.args.table.now (map g.R.ByteReading.as_read c.args.haystack.now) (window_bits c.args.last) (c.args.place + 1) 0 }

pub loop-k-preserved : goal.loop-k-preserved
loop-k-preserved g c =
    let text = map g.R.ByteReading.as_read c.args.haystack.now in
    let entry : c.from.result ≡ entry_in c.args.table.now (pair_before text (c.args.place + 1 + c.loop-k.k)) =
    c.from.ensures ∙ entry_read c.args.table.now g.R.ByteReading.as_read c.args.haystack.now (c.args.place + c.loop-k.k) c.pair.result c.entry-entry.result (c.args.place + 1 + c.loop-k.k) (omega arith) (omega arith) c.pair.ensures.first c.pair.ensures.second c.entry-entry.ensures in
    record { read = rw (entry, c.loop-k.invariant.read) (states_more c.args.table.now text (window_bits c.args.last) (c.args.place + 1) 0 c.loop-k.k) }

pub returns : goal.returns
returns g c pos state low bits =
    let text = map g.R.ByteReading.as_read c.args.haystack.now in
    let all : c.loop-k.k ≡ c.args.num_pairs = omega arith in
    let size : length text ≡ length c.args.haystack.now = length-map c.args.haystack.now g.R.ByteReading.as_read in
    rw (c.loop-k.invariant.read, all) (ended_apart c.args.table.now text c.args.last pos (c.args.place + 1) state c.args.num_pairs c.requires.low c.requires.few low (omega arith) bits)
