-- The count doesn't fall.
use Rattle.std.proofs.Common.{◌≡◌, ◌<◌, ◌^◌, get_or, arith, rules, ◌∙◌}
use Rattle.std.proofs.lemmas.List.{get_or_default}
use Rattle.daachorse_build.proofs.GrownCounts.{grown_set}
use Rattle.daachorse_build.proofs.nfa_builder.profile.count.Goals as goal

pub returns : goal.returns
returns g c =
    let items = c.args.counts.now.items in
    let read : c.index-old.result.now ≡ get_or items c.args.id 0 = c.index-old.ensures ∙ get_or_default items c.args.id c.index-old.result.now 0 (omega arith) in
    let fits : c.index-old.result.now < 2 ^ 64 = search rules in
    grown_set items c.args.id c.saturating_add.result (omega arith) (omega (arith, read))
