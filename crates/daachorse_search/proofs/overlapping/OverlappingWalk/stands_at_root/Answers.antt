-- The walk began at the root once, so what it read since it began there is all that it read.
use Rattle.std.proofs.Common.{[], subst}
use Rattle.std.specs.Prelude.{◌↔◌, IsTrue}
use Rattle.daachorse_core.specs.Seen.{units}
use Rattle.daachorse_model.specs.Prefixes.{IsLong}
use Rattle.daachorse_search.specs.Walks.{Walked}
use Rattle.daachorse_search.proofs.OverlappingLaws.{root_of_read}
use Rattle.daachorse_search.proofs.overlapping.OverlappingWalk.stands_at_root.Goals as goal

pub returns : goal.returns
returns g c =
    let A = g.A.Automaton in let width = g.A.Unit.EdgeLabel.width in
    let P : Walked g.row.A.Denot → Type 0 = λ s. IsTrue c.is_at_root.result ↔ IsLong (A.sees s.automaton).content (units s.seen) [] in
    subst P c.self.view_is (root_of_read width A.sees c.self.inside.walk c.is_at_root.result c.self.invariant c.is_at_root.ensures)
