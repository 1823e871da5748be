-- What is seen of the stepper is what it keeps.
use Rattle.std.proofs.Common.{◌≡◌, ◌≢◌, ℕ, List, [], length, Some, subst}
use Rattle.daachorse_model.specs.Matches.{IsSinceMatch}
use Rattle.daachorse_model.specs.Prefixes.{IsLong}
use Rattle.daachorse_search.specs.Stepwise.{Stepped}
use Rattle.daachorse_search.proofs.find_stepper.FindStepper+V+A.depth.Goals as goal

pub returns-clause-depth : goal.returns-clause-depth
returns-clause-depth g c =
    let A = g.A.Automaton in let unit = g.A.Unit.EdgeLabel in
    let P : Stepped g.row.A.Denot → Type 0 = λ p. p.depths ≢ [] → (since s : List ℕ) → IsSinceMatch unit.width (A.sees p.automaton).content p.read since → IsLong (A.sees p.automaton).content since s → c.depth.result ≡ Some (length s) in
    subst P c.self.view_is c.depth.ensures.depth
