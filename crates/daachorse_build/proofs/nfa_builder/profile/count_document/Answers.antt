-- Each search counts more, and over an empty document there is but one, which counts nothing.
use Rattle.std.proofs.Common.{length, ap, arith}
use Rattle.daachorse_build.proofs.GrownCounts.{counted_same, counted_twice, counts_stay, same_counts, same_twice}
use Rattle.daachorse_build.proofs.nfa_builder.profile.count_document.Goals as goal

pub loop-taken-init : goal.loop-taken-init
loop-taken-init g c = record {
  counted = counted_same c.args.profile.now;
  empty = λ e. (e, same_counts c.args.profile.now);
}

pub count_run-requires-clause-counts : goal.count_run-requires-clause-counts
count_run-requires-clause-counts g c =
    counts_stay (length c.args.states.now) c.args.profile.now c.loop-taken.profile c.requires.counts c.loop-taken.invariant.counted

pub loop-taken-preserved : goal.loop-taken-preserved
loop-taken-preserved g c = record {
  counted = counted_twice c.args.profile.now c.loop-taken.profile c.count_run.new.profile c.loop-taken.invariant.counted c.count_run.ensures.counted;
  empty = λ e. absurd (omega (arith, c.in-Some.ensures.on, ap length (c.loop-taken.invariant.empty e).0));
}

pub returns : goal.returns
returns g c = record {
  counted = counted_twice c.args.profile.now c.loop-taken.profile c.count_run.new.profile c.loop-taken.invariant.counted c.count_run.ensures.counted;
  empty = λ e.
      let before = c.loop-taken.invariant.empty e in
      same_twice c.args.profile.now c.loop-taken.profile c.count_run.new.profile before.1 (c.count_run.ensures.empty before.0);
}
