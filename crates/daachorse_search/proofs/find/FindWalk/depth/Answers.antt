-- The walk began again at the root behind the last match, so that its state counts from there.
use Rattle.std.proofs.Common.{ℕ, List, subst, sym}
use Rattle.daachorse_core.specs.Seen.{units}
use Rattle.daachorse_model.specs.Matches.{IsSinceMatch}
use Rattle.daachorse_model.specs.Prefixes.{IsLong}
use Rattle.daachorse_search.specs.Walks.{Walked}
use Rattle.daachorse_search.proofs.FindLaws.{finding-since}
use Rattle.daachorse_search.proofs.find.FindWalk.depth.Goals as goal

pub returns-clause-depth : goal.returns-clause-depth
returns-clause-depth g c some since s is long =
    let A = g.A.Automaton in let unit = g.A.Unit.EdgeLabel in let i = c.self.inside in
    let S : Walked g.row.A.Denot → Type 0 = λ w. IsSinceMatch unit.width (A.sees w.automaton).content (units w.seen) since in
    let L : Walked g.row.A.Denot → Type 0 = λ w. IsLong (A.sees w.automaton).content since s in
    let P : List ℕ → Type 0 = λ w. IsLong (A.sees i.walk.automaton).content w s in
    let same = finding-since unit.width g.met.A.Unit.EdgeLabel.wide A.sees i.walk i.everywhere c.self.invariant since (subst S (sym c.self.view_is) is) in
    c.depth.ensures.depth some s (subst P same (subst L (sym c.self.view_is) long))
