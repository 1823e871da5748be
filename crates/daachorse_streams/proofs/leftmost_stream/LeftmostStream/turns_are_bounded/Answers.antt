-- The turns are bounded between any two calls.
use Rattle.std.proofs.Common.{◌≡◌, ◌≤◌, ◌+◌, ◌*◌, ℕ, false, length, subst}
use Rattle.daachorse_search.specs.BestScans.{HasNoLongerKey}
use Rattle.daachorse_streams.specs.Streamed.{LeftmostStreamed, LooksAtKeys}
use Rattle.daachorse_streams.proofs.StreamLaws.{looks, within}
use Rattle.daachorse_streams.proofs.leftmost_stream.LeftmostStream.turns_are_bounded.Goals as goal

pub returns-clause-most : goal.returns-clause-most
returns-clause-most g c =
    let A = g.A.Automaton in let unit = g.A.Unit.EdgeLabel in
    let P : LeftmostStreamed g.row.V.Denot g.row.A.Denot → Type 0 = λ s. (m : ℕ) → HasNoLongerKey (A.sees s.automaton).content m → s.turns ≤ 2 * length s.read + 4 * (m * length s.given) in
    subst P c.self.view_is (within unit.width g.met.A.Unit.EdgeLabel.wide (A.sees c.self.inside.automaton) unit.unit c.self.invariant.1)

pub returns-clause-least : goal.returns-clause-least
returns-clause-least g c =
    let A = g.A.Automaton in let unit = g.A.Unit.EdgeLabel in
    let P : LeftmostStreamed g.row.V.Denot g.row.A.Denot → Type 0 =
    λ s. s.waiting ≡ false → LooksAtKeys (A.sees s.automaton) s.read s.read s.turns in
    subst P c.self.view_is (looks unit.width g.met.A.Unit.EdgeLabel.wide (A.sees c.self.inside.automaton) unit.unit c.self.invariant.1)
