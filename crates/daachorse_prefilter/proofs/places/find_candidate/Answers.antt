-- Each candidate of the buckets passes or is passed over, and near the end the filter alone is asked.
use Rattle.std.proofs.Common.{sym, ◌∙◌, arith}
use Rattle.daachorse_prefilter.proofs.Candidates.{candidate_found, ended, none_far, none_refused}
use Rattle.daachorse_prefilter.proofs.places.find_candidate.Goals as goal

pub loop-from-preserved-then-place-near : goal.loop-from-preserved-then-place-near
loop-from-preserved-then-place-near g c =
    let R = g.R.ByteReading in let met = g.met.R.ByteReading in let l = c.loop-from in let place = c.next_candidate-place in
    record {
      low = omega (arith, l.invariant.low, c.loop-from-test.true);
      none = none_far R.as_read R.read met.reads_each met.same_letter c.args.buckets.now c.args.filter.now c.args.haystack.now c.args.pos l.from l.invariant.low l.invariant.none place.result c.saturating_sub-near.result (omega (arith, c.saturating_sub-near.ensures)) (omega (arith, c.if-place-near.true)) place.ensures.none;
    }

pub admits_at-requires : goal.admits_at-requires
admits_at-requires g c = omega (arith, c.saturating_sub-near.ensures, c.if-place-near.false)

pub returns-then-admits_at : goal.returns-then-admits_at
returns-then-admits_at g c =
    let R = g.R.ByteReading in let met = g.met.R.ByteReading in let l = c.loop-from in let place = c.next_candidate-place in
    candidate_found R.as_read R.read met.reads_each met.same_letter c.args.buckets.now c.args.filter.now c.args.haystack.now c.args.pos l.from l.invariant.low l.invariant.none place.result
    (omega (arith, c.saturating_sub-near.ensures, c.if-place-near.false)) place.ensures.behind place.ensures.here (sym c.admits_at.ensures ∙ c.if-admits_at.true) place.ensures.none

pub loop-from-preserved : goal.loop-from-preserved
loop-from-preserved g c =
    let R = g.R.ByteReading in let met = g.met.R.ByteReading in let l = c.loop-from in let place = c.next_candidate-place in
    record {
      low = omega (arith, l.invariant.low, place.ensures.behind);
      none = none_refused R.as_read R.read met.reads_each met.same_letter c.args.buckets.now c.args.filter.now c.args.haystack.now c.args.pos l.from l.invariant.low l.invariant.none place.result
          (omega (arith, c.saturating_sub-near.ensures, c.if-place-near.false)) (sym c.admits_at.ensures ∙ c.if-admits_at.false) place.ensures.none;
    }

pub returns : goal.returns
returns g c =
    let R = g.R.ByteReading in let met = g.met.R.ByteReading in let l = c.loop-from in
    ended R.as_read R.read met.reads_each met.same_letter c.args.buckets.now c.args.filter.now c.args.haystack.now c.args.pos l.from l.invariant.low l.invariant.none c.saturating_sub-near.result c.first_place.result
    (omega (arith, c.saturating_sub-near.ensures)) (omega (arith, c.loop-from-test.false)) c.first_place.ensures
