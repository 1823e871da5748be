-- Where some key is empty, each place has the match of the empty key, and a unit that is passed changes nothing of it.
use Rattle.std.proofs.Common.{Option, None, Some, IfSome, sym, ◌∙◌}
use Rattle.daachorse_search.proofs.FindLaws.{finding-skip}
use Rattle.daachorse_search.proofs.find.FindWalkStepwise.pass.Goals as goal

-- what holds, holds where there is something
if_any : {X : Type 0} (o : Option X) (P : Type 0) → P → IfSome o (λ _. P)
if_any None P h = tt
if_any (Some x) P h = h

pub returns-then-is_some-clause-stops : goal.returns-then-is_some-clause-stops
returns-then-is_some-clause-stops g c =
    let A = g.A.Automaton in let unit = g.A.Unit.EdgeLabel in let s = c.self.inside in
    if_any s.everywhere _ (finding-skip unit.width g.met.A.Unit.EdgeLabel.wide A.sees s.walk c.skip.new.self (unit.unit c.args.unit) s.everywhere (sym c.is_some.ensures ∙ c.if-is_some.true) c.self.invariant c.skip.ensures.automaton c.skip.ensures.seen c.skip.ensures.turns).1
