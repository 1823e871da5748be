-- The state's text is the longest end of what was read since the root, so its chain of outputs is that of the matches that end here.
use Rattle.std.proofs.Common.{subst}
use Rattle.daachorse_core.specs.Outputs.{number}
use Rattle.daachorse_search.specs.Walks.{Walked, HasOutputs}
use Rattle.daachorse_search.proofs.WalkLaws.{HasOutputs-first}
use Rattle.daachorse_search.proofs.walk.Walk.outputs.Goals as goal

pub returns-clause-outputs : goal.returns-clause-outputs
returns-clause-outputs g c =
    let A = g.A.Automaton in let width = g.A.Unit.EdgeLabel.width in let s = c.self.inside in let found = c.output_pos in
    let P = λ (w : Walked g.row.A.Denot). HasOutputs width (A.sees w.automaton) w.seen (number found.result) in
    subst P c.self.view_is (HasOutputs-first (A.sees s.automaton) width s.seen s.state s.turns found.result c.self.invariant found.ensures)
