-- What is passed over adds nothing to the list of the vacant elements.
use Rattle.std.proofs.Common.{◌∙◌}
use Rattle.daachorse_placement.proofs.VacantLists.{vacant_skip, vacant_here, vacant_end}
use Rattle.daachorse_placement.proofs.build_helper.first_vacant.Goals as goal

pub returns-clause-one : goal.returns-clause-one
returns-clause-one g c = λ lt.
    let s = c.skip_used.ensures in
    let used = c.args.elements.now.used_index.items in
    vacant_skip used c.args.start c.skip_used.result s.from s.inside s.used ∙ vacant_here used c.skip_used.result lt (s.vacant lt)

pub returns-clause-none : goal.returns-clause-none
returns-clause-none g c = λ le.
    let s = c.skip_used.ensures in
    let used = c.args.elements.now.used_index.items in
    let last = vacant_end used c.skip_used.result le in
    (vacant_skip used c.args.start c.skip_used.result s.from s.inside s.used ∙ last, last)
