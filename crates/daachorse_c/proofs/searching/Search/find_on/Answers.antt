-- Each match is written after those before it.
use Rattle.std.proofs.Common.{◌≡◌, ◌<◌, drop, length, refl, sym, ap, ◌∙◌, arith}
use Rattle.std.proofs.lemmas.List.{length-set}
use Rattle.daachorse_c.specs.Held.{haystack_of, searched}
use Rattle.daachorse_c.specs.Places.{left_of}
use Rattle.daachorse_c.proofs.Reported.{Writes-from_reported, reported-one, reported_nothing}
use Rattle.daachorse_c.proofs.searching.Search.find_on.Goals as goal

pub loop-written-init : goal.loop-written-init
loop-written-init c = record {
  within = c.requires;
  long = refl;
  reported = reported_nothing _ _;
  still = λ none. refl;
  last = λ n none. absurd (omega (arith, none));
}

pub loop-written-preserved : goal.loop-written-preserved
loop-written-preserved c =
    let i = c.loop-written.invariant in let next = c.in-Some.ensures in
    let lt : c.loop-written.written < length c.args.out.now = omega (arith, i.long, c.loop-written-test.true) in
    record {
      within = next.within;
      long = length-set _ _ _ ∙ i.long;
      reported = rw c.of.ensures (reported-one c.in-Some.found (left_of (searched c.args.self.now) (haystack_of c.args.self.now) c.next_match.new.place) i.reported next.some lt);
      still = λ none. absurd (omega (arith, none));
      last = λ n is.
          let same : c.loop-written.written ≡ n = omega (arith, is) in
          let all = left_of (searched c.args.self.now) (haystack_of c.args.self.now) c.args.place.now in
          (c.in-Some.found, ap (λ w. drop w all) (sym same) ∙ i.reported.left ∙ next.some, next.behind);
    }

pub returns-clause-writes : goal.returns-clause-writes
returns-clause-writes c =
    let i = c.loop-written.invariant in
    Writes-from_reported i.reported (λ lt. absurd (omega (arith, lt, i.long, c.loop-written-test.false)))

pub returns-clause-left : goal.returns-clause-left
returns-clause-left c = sym c.loop-written.invariant.reported.left

pub returns-in_default-clause-writes : goal.returns-in_default-clause-writes
returns-in_default-clause-writes c = Writes-from_reported c.loop-written.invariant.reported (λ _. c.in_default.ensures.none.0)

pub returns-clause-stands : goal.returns-clause-stands
returns-clause-stands c =
    let i = c.loop-written.invariant in record {
      within = i.within;
      over = λ lt. absurd (omega (arith, lt, i.long, c.loop-written-test.false));
      still = λ none. i.still (omega (arith, none, i.reported.room));
      last = λ n is full. i.last n is;
    }

pub returns-in_default-clause-stands : goal.returns-in_default-clause-stands
returns-in_default-clause-stands c =
    let i = c.loop-written.invariant in
    let lt : c.loop-written.written < length c.args.out.now = omega (arith, i.long, c.loop-written-test.true) in record {
      within = c.in_default.ensures.within;
      over = λ _. c.in_default.ensures.over;
      still = λ none. absurd (omega (arith, none, lt));
      last = λ n is full. absurd (omega (arith, full, lt));
    }
