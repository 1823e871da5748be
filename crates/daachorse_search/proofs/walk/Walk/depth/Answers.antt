-- The state stands for the longest end of what was read since the walk last began at the root.
use Rattle.std.proofs.Common.{Some, subst, sym, ap, arith}
use Rattle.std.proofs.lemmas.Grind.{common_steps}
use Rattle.daachorse_model.specs.Prefixes.{IsLong}
use Rattle.daachorse_search.specs.Views.{HasDepths}
use Rattle.daachorse_search.specs.Walks.{Walked}
use Rattle.daachorse_search.proofs.DepthLaws.{depth-of}
use Rattle.daachorse_search.proofs.walk.Walk.depth.Goals as goal

pub bounds-depths-self-inside : goal.bounds-depths-self-inside
bounds-depths-self-inside g c =
    let R : Walked g.row.A.Denot → Type 0 = λ w. HasDepths (g.A.Automaton.sees w.automaton) c.args.depths.now in
    let has = subst R (sym c.self.view_is) c.requires in let at = c.self.invariant.at_state in
    grind (arith, common_steps)

pub returns-clause-depth : goal.returns-clause-depth
returns-clause-depth g c some s long =
    let A = g.A.Automaton in let i = c.self.inside in let kept = c.self.invariant in let depths = c.args.depths.now in
    let R : Walked g.row.A.Denot → Type 0 = λ w. HasDepths (A.sees w.automaton) depths in
    let L : Walked g.row.A.Denot → Type 0 = λ w. IsLong (A.sees w.automaton).content w.seen.since s in
    ap Some (depth-of (A.sees i.automaton) depths i.state i.seen.since s (subst R (sym c.self.view_is) c.requires) some kept.at_state kept.long (subst L (sym c.self.view_is) long))
