-- Where all matches are found as by a walk that begins there, so is the first of them at each end; and a walk that has read nothing stands at the root.
use Rattle.std.proofs.Common.{◌≡◌, [], subst}
use Rattle.std.specs.Bool.{OnTrue}
use Rattle.std.specs.Prelude.{IsTrue}
use Rattle.daachorse_core.specs.Seen.{units}
use Rattle.daachorse_search.specs.Afresh.{GoesOnAfresh}
use Rattle.daachorse_search.specs.Searches.{first_found}
use Rattle.daachorse_search.specs.Walks.{Walked}
use Rattle.daachorse_search.proofs.OverlappingLaws.{first_afresh, read_begins}
use Rattle.daachorse_search.proofs.overlapping.NoSuffixWalkStepwise.is_at_root.Goals as goal

pub returns-clause-afresh : goal.returns-clause-afresh
returns-clause-afresh g c =
    let A = g.A.Automaton in let width = g.A.Unit.EdgeLabel.width in
    let P : Walked g.row.A.Denot → Type 0 = λ s. OnTrue c.stands_at_root.result (GoesOnAfresh width (A.sees s.automaton).content (first_found width A.sees s.automaton) (units s.seen)) in
    subst P c.self.view_is (first_afresh width A.sees c.self.inside.all c.stands_at_root.result c.stands_at_root.ensures)

pub returns-clause-begins : goal.returns-clause-begins
returns-clause-begins g c =
    let A = g.A.Automaton in let width = g.A.Unit.EdgeLabel.width in
    let P : Walked g.row.A.Denot → Type 0 = λ s. units s.seen ≡ [] → IsTrue c.stands_at_root.result in
    subst P c.self.view_is (read_begins width A.sees c.self.inside.all c.stands_at_root.result c.stands_at_root.ensures)
