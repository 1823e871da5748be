-- Each round moves the state by its pairs, and answers the first of its windows that passes.
use Rattle.std.proofs.Common.{◌≡◌, ℕ, ◌+◌, ◌-◌, ◌*◌, ◌/◌, ◌^◌, ◌<◌, length, map, subst, sym, arith}
use Rattle.std.proofs.Math.Nat.{div-mul-le_self}
use Rattle.std.proofs.lemmas.List.{length-map}
use Rattle.std.proofs.lemmas.Nat.{mul-le}
use Rattle.daachorse_prefilter.specs.Scans.{AreBits, NonePasses}
use Rattle.daachorse_prefilter.proofs.Rounds.{begins_within, found_in_round, none_in_round}
use Rattle.daachorse_prefilter.proofs.Scanned.{bits_start, none_start}
use Rattle.daachorse_prefilter.proofs.prefilter.scan.scan.Goals as goal

-- the bytes of a round are there
round_inside : (pos len n round : ℕ) → pos < len → round < (len - pos - 1) / n → pos + round * n + n < len
round_inside pos len n round begun below =
    let next : (round + 1) * n ≡ round * n + n = omega arith in
    omega (arith, begun, next, mul-le (round + 1) n ((len - pos - 1) / n) n (omega (arith, below)) (omega arith), div-mul-le_self (len - pos - 1) n)

pub loop-round-init : goal.loop-round-init
loop-round-init g c =
    let text = map g.R.ByteReading.as_read c.args.haystack.now in
    let first : c.args.pos + 0 * c.pairs_in_round-num_pairs.result + 1 ≡ c.args.pos + 1 = omega arith in
    let P : ℕ → Type 0 = λ i. AreBits c.args.table.now text (c.args.window_len - 2) c.args.pos i (2 ^ 32 - 1) in
    let Q : ℕ → Type 0 = λ i. NonePasses c.args.table.now text (c.args.window_len - 2 + 2) c.args.pos i in
    record {
      bits = subst P (sym first) (bits_start c.args.table.now text (c.args.window_len - 2) c.args.pos (omega arith));
      none = subst Q (sym first) (none_start c.args.table.now text (c.args.window_len - 2) c.args.pos);
    }

pub first_in_round-requires : goal.first_in_round-requires
first_in_round-requires g c =
    let text = map g.R.ByteReading.as_read c.args.haystack.now in let l = c.loop-round in let n = c.pairs_in_round-num_pairs.result in let place = c.args.pos + l.round * n in
    begins_within c.args.table.now text (c.args.window_len - 2) n c.args.pos place c.read_round-state.result (omega arith) c.pairs_in_round-num_pairs.ensures.few c.read_round-state.type_inv
    (omega (arith, round_inside c.args.pos (length c.args.haystack.now) n l.round (omega arith) c.loop-round-test.true, length-map c.args.haystack.now g.R.ByteReading.as_read)) (c.read_round-state.ensures c.args.pos (omega arith) l.invariant.bits)

pub returns-in-Some : goal.returns-in-Some
returns-in-Some g c =
    let text = map g.R.ByteReading.as_read c.args.haystack.now in let l = c.loop-round in let n = c.pairs_in_round-num_pairs.result in let place = c.args.pos + l.round * n in
    let whole : c.args.window_len - 2 + 2 ≡ c.args.window_len = omega arith in
    rw whole at (found_in_round c.args.table.now text (c.args.window_len - 2) n c.args.pos place c.read_round-state.result (omega arith) c.pairs_in_round-num_pairs.ensures.few c.read_round-state.type_inv
    (omega (arith, round_inside c.args.pos (length c.args.haystack.now) n l.round (omega arith) c.loop-round-test.true, length-map c.args.haystack.now g.R.ByteReading.as_read)) (c.read_round-state.ensures c.args.pos (omega arith) l.invariant.bits) c.in-Some.found l.invariant.none c.in-Some.ensures)

pub loop-round-preserved : goal.loop-round-preserved
loop-round-preserved g c =
    let text = map g.R.ByteReading.as_read c.args.haystack.now in let l = c.loop-round in let n = c.pairs_in_round-num_pairs.result in let place = c.args.pos + l.round * n in
    let ends = c.read_round-state.ensures c.args.pos (omega arith) l.invariant.bits in
    let next : (l.round + 1) * n ≡ l.round * n + n = omega arith in
    let read_on : place + 1 + n ≡ c.args.pos + (l.round + 1) * n + 1 = omega (arith, next) in
    let round_on : place + n + 1 ≡ c.args.pos + (l.round + 1) * n + 1 = omega (arith, next) in
    let P : ℕ → Type 0 = λ i. AreBits c.args.table.now text (c.args.window_len - 2) c.args.pos i c.read_round-state.result in
    let Q : ℕ → Type 0 = λ i. NonePasses c.args.table.now text (c.args.window_len - 2 + 2) c.args.pos i in
    record {
      bits = subst P read_on ends.bits;
      none = subst Q round_on (none_in_round c.args.table.now text (c.args.window_len - 2) n c.args.pos place c.read_round-state.result (omega arith) c.pairs_in_round-num_pairs.ensures.few c.read_round-state.type_inv
          (omega (arith, round_inside c.args.pos (length c.args.haystack.now) n l.round (omega arith) c.loop-round-test.true, length-map c.args.haystack.now g.R.ByteReading.as_read)) ends l.invariant.none c.in_default.ensures);
    }

pub returns : goal.returns
returns g c =
    let whole : c.args.window_len - 2 + 2 ≡ c.args.window_len = omega arith in
    rw whole at c.scan_rest.ensures
