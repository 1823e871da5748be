-- What was read since the last match is what was read since the root, so the walk's bounds are the search's; where some key is empty, no unit is looked up and no turn is taken.
use Rattle.std.proofs.Common.{◌≤◌, subst}
use Rattle.std.specs.Prelude.{count_by}
use Rattle.daachorse_core.specs.Seen.{units}
use Rattle.daachorse_search.specs.Walks.{Walked}
use Rattle.daachorse_search.specs.Stepwise.{AreBoundedSince, looks_unless_empty}
use Rattle.daachorse_search.proofs.FindLaws.{finding-bounded, finding-least}
use Rattle.daachorse_search.proofs.find.FindWalkStepwise.turns_are_bounded.Goals as goal

pub returns-clause-bounds : goal.returns-clause-bounds
returns-clause-bounds g c =
    let A = g.A.Automaton in let unit = g.A.Unit.EdgeLabel in let s = c.self.inside in let bounds = c.turns_are_bounded.ensures in
    let P : Walked g.row.A.Denot → Type 0 = λ x. AreBoundedSince unit.width (A.sees x.automaton) (units x.seen) x.turns in
    subst P c.self.view_is (finding-bounded unit.width g.met.A.Unit.EdgeLabel.wide A.sees s.walk s.everywhere c.self.invariant bounds.most bounds.deep bounds.single bounds.least)

pub returns-clause-least : goal.returns-clause-least
returns-clause-least g c =
    let A = g.A.Automaton in let unit = g.A.Unit.EdgeLabel in let s = c.self.inside in
    let P : Walked g.row.A.Denot → Type 0 = λ x. count_by (looks_unless_empty (A.sees x.automaton)) (units x.seen) ≤ x.turns in
    subst P c.self.view_is (finding-least unit.width g.met.A.Unit.EdgeLabel.wide A.sees s.walk s.everywhere c.self.invariant c.turns_are_bounded.ensures.least)
