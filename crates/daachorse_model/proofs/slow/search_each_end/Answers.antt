-- Each round appends what is looked for at the end of one more beginning, and the call behind the loop appends it for the whole haystack, which is how the definition joins them.
use Rattle.std.proofs.Common.{◌∙◌}
use Rattle.daachorse_model.specs.Dictionary.{values_of, registrations_of}
use Rattle.daachorse_model.specs.Slow.{width_of, matches_at_end}
use Rattle.daachorse_model.proofs.SlowLaws.{at_each_end-step, at_each_end-last}
use Rattle.daachorse_model.proofs.slow.search_each_end.Goals as goal

pub loop-read-preserved : goal.loop-read-preserved
loop-read-preserved g c =
    let f = matches_at_end c.args.at_end (width_of c.args.width) (values_of (registrations_of c.args.patterns.now)) in
    at_each_end-step f c.args.haystack.now c.loop-read.read c.loop-read.found.items c.push_at_end.new.found.items c.loop-read-test.true c.in_ok-push_at_end.ensures
    ∙ c.loop-read.invariant

pub returns : goal.returns
returns g c =
    let f = matches_at_end c.args.at_end (width_of c.args.width) (values_of (registrations_of c.args.patterns.now)) in
    at_each_end-last f c.args.haystack.now c.loop-read.read c.loop-read.found.items c.push_at_end-2.new.found.items c.loop-read-test.false c.in_ok-push_at_end-2.ensures
    ∙ c.loop-read.invariant
