-- Nothing is counted without a label.
use Rattle.daachorse_build.proofs.GrownCounts.{counted_same}
use Rattle.daachorse_build.proofs.nfa_builder.profile.count_label.Goals as goal

pub returns-then-not-has_label-clause-counted : goal.returns-then-not-has_label-clause-counted
returns-then-not-has_label-clause-counted g c = counted_same c.args.profile.now
