-- The first match is the first element of the list of those that end here, so to push it, if there is one, is to append the list's first element alone.
use Rattle.std.proofs.Common.{◌∙◌, sym}
use Rattle.daachorse_model.specs.Dictionary.{values_of, registrations_of}
use Rattle.daachorse_model.specs.Matches.{ending_at}
use Rattle.daachorse_model.specs.Slow.{width_of}
use Rattle.daachorse_model.proofs.SlowLaws.{first-some, first-none}
use Rattle.daachorse_model.proofs.slow.push_first_ending_at.Goals as goal

pub returns-in_ok-push : goal.returns-in_ok-push
returns-in_ok-push g c =
    let all = ending_at (width_of c.args.width) (values_of (registrations_of c.args.patterns.now)) c.args.start c.args.end c.args.text.now in
    first-some all c.args.found.now.items c.push.new.self.items c.in-Some.first (sym c.in-Some.is ∙ c.in_ok-first.ensures) c.in_ok-push.ensures.items

pub returns-in_default : goal.returns-in_default
returns-in_default g c =
    let all = ending_at (width_of c.args.width) (values_of (registrations_of c.args.patterns.now)) c.args.start c.args.end c.args.text.now in
    first-none all c.args.found.now.items (sym c.in_default.is ∙ c.in_ok-first.ensures)
