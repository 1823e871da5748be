-- After a place was read, no bucket lets a window pass that ends there: by its lowest bits, or as each was looked at.
use Rattle.std.proofs.Common.{◌≡◌, ◌+◌, ◌*◌, ℕ, arith, subst, sym, bit_and}
use Rattle.daachorse_prefilter.specs.BucketScans.{Shows}
use Rattle.daachorse_prefilter.proofs.BucketScanLaws.{none_more, none_same, next_place}
use Rattle.daachorse_prefilter.proofs.buckets.scan.find_in_round.Goals.{then-state-low+else-loop-d-test, else-state-low}
use Rattle.daachorse_prefilter.proofs.buckets.scan.find_in_round.Goals as goal

pub loop-j-preserved : goal.loop-j-preserved
loop-j-preserved c =
    let table = c.args.entries.now in let text = c.args.haystack.now in let stride = c.args.stride in let place = c.args.place in let l = c.loop-j in
    let next : place + (l.j + 1) * stride ≡ place + l.j * stride + stride = next_place place l.j stride in
    let on : Shows table text c.args.pos stride (place + (l.j + 1) * stride) c.read-state.result =
    (let P : ℕ → Type 0 = λ p. Shows table text c.args.pos stride p c.read-state.result in subst P (sym next) (c.read-state.ensures c.args.pos l.invariant.shows)) in
    let IsFull : ℕ → Type 0 = λ low. bit_and c.read-state.result low ≡ low in
    record {
      shows = on;
      none = elim c.if-state-low.branch [
        | then-state-low+else-loop-d-test w ↦ none_same table text c.args.pos place (place + l.j * stride + w.loop-d.d) (place + (l.j + 1) * stride) (omega (arith, next, w.loop-d-test.false)) w.loop-d.invariant
        | else-state-low w ↦ none_more table text c.args.pos stride place (place + l.j * stride) (place + (l.j + 1) * stride) c.read-state.result (omega (arith, c.requires.stride)) (omega (arith, c.requires.stride)) next
            (subst IsFull c.low_bits-low.ensures w.if-state-low.false) on l.invariant.none
      ];
    }
