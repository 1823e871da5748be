-- Each place more adds the windows that end there.
use Rattle.std.proofs.Common.{◌≡◌, ◌+◌, ◌*◌, ◌/◌, ℕ, arith, subst, sym, bit_and}
use Rattle.std.proofs.lemmas.Bool.{eqb-true}
use Rattle.daachorse_prefilter.specs.BucketScans.{Shows}
use Rattle.daachorse_prefilter.proofs.BucketScanLaws.{shown_none, shown_more, none_in_round, next_place, last_place}
use Rattle.daachorse_prefilter.proofs.buckets.scan.read_round.Goals as goal

pub loop-j-init : goal.loop-j-init
loop-j-init c =
    let start : c.args.place + 0 * c.args.stride ≡ c.args.place = omega arith in
    record {
      shows = λ pos shows. (let P : ℕ → Type 0 = λ p. Shows c.args.entries.now c.args.haystack.now pos c.args.stride p c.args.state in subst P (sym start) shows);
      shown = shown_none c.args.entries.now c.args.haystack.now c.args.stride c.args.place (c.args.place + 0 * c.args.stride) 18446744073709551615 c.args.state start;
    }

pub loop-j-preserved : goal.loop-j-preserved
loop-j-preserved c =
    let table = c.args.entries.now in let text = c.args.haystack.now in let stride = c.args.stride in let place = c.args.place in let l = c.loop-j in
    let next : place + (l.j + 1) * stride ≡ place + l.j * stride + stride = next_place place l.j stride in
    let on : (pos : ℕ) → Shows table text pos stride place c.args.state → Shows table text pos stride (place + (l.j + 1) * stride) c.read-state.result = λ pos shows.
    (let P : ℕ → Type 0 = λ p. Shows table text pos stride p c.read-state.result in subst P (sym next) (c.read-state.ensures pos (l.invariant.shows pos shows))) in
    record {
      shows = on;
      shown = shown_more table text stride place (place + l.j * stride) (place + (l.j + 1) * stride) l.all c.args.state c.read-state.result (omega (arith, c.requires.stride)) (omega (arith, c.requires.stride)) next on l.invariant.shown;
    }

pub returns-clause-shows : goal.returns-clause-shows
returns-clause-shows c pos shows =
    let l = c.loop-j in
    let whole : l.j ≡ 16 / c.args.stride = omega arith in
    let P : ℕ → Type 0 = λ p. Shows c.args.entries.now c.args.haystack.now pos c.args.stride p l.state in
    subst P (last_place c.args.place l.j c.args.stride c.requires.stride whole) (l.invariant.shows pos shows)

pub returns-clause-none : goal.returns-clause-none
returns-clause-none c pos shows sure =
    let l = c.loop-j in
    let whole : l.j ≡ 16 / c.args.stride = omega arith in
    let IsFull : ℕ → Type 0 = λ low. bit_and l.all low ≡ low in
    none_in_round c.args.entries.now c.args.haystack.now pos c.args.stride c.args.place (c.args.place + l.j * c.args.stride) (c.args.place + 16) l.all c.args.state
    (last_place c.args.place l.j c.args.stride c.requires.stride whole)
    (subst IsFull c.low_bits-low.ensures (eqb-true _ _ sure))
    shows l.invariant.shown
