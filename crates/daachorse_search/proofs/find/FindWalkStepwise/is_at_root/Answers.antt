-- Where no key that began since the last match goes on, or where some key is empty, the search goes on as one that begins there; and where nothing was read, the walk stands at the root.
use Rattle.std.proofs.Common.{◌≡◌, [], subst}
use Rattle.std.specs.Bool.{OnTrue}
use Rattle.std.specs.Prelude.{IsTrue}
use Rattle.daachorse_core.specs.Seen.{units}
use Rattle.daachorse_search.specs.Afresh.{GoesOnAfresh}
use Rattle.daachorse_search.specs.Searches.{standard_found}
use Rattle.daachorse_search.specs.Walks.{Walked}
use Rattle.daachorse_search.proofs.FindLaws.{finding-afresh}
use Rattle.daachorse_search.proofs.OverlappingLaws.{root_begins}
use Rattle.daachorse_search.proofs.find.FindWalkStepwise.is_at_root.Goals as goal

pub returns-clause-afresh : goal.returns-clause-afresh
returns-clause-afresh g c =
    let A = g.A.Automaton in let unit = g.A.Unit.EdgeLabel in let i = c.self.inside in
    let P : Walked g.row.A.Denot → Type 0 = λ s. OnTrue c.is_at_root.result (GoesOnAfresh unit.width (A.sees s.automaton).content (standard_found unit.width A.sees s.automaton) (units s.seen)) in
    subst P c.self.view_is (finding-afresh unit.width g.met.A.Unit.EdgeLabel.wide A.sees i.walk i.everywhere c.is_at_root.result c.self.invariant c.is_at_root.ensures)

pub returns-clause-begins : goal.returns-clause-begins
returns-clause-begins g c =
    let A = g.A.Automaton in let width = g.A.Unit.EdgeLabel.width in
    let P : Walked g.row.A.Denot → Type 0 = λ s. units s.seen ≡ [] → IsTrue c.is_at_root.result in
    subst P c.self.view_is (root_begins width A.sees c.self.inside.walk c.is_at_root.result c.is_at_root.ensures)
