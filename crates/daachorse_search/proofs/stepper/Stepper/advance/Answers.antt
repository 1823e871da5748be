-- The place counts one unit more, and the matches given those that end with it.
use Rattle.std.proofs.Common.{◌+◌, [], length, ap, ◌∙◌, subst, sym, arith}
use Rattle.daachorse_model.specs.Matches.{at_each_end}
use Rattle.daachorse_model.specs.Units.{size}
use Rattle.daachorse_model.proofs.Suffixes.{size-push}
use Rattle.daachorse_search.specs.Stepwise.{Stepped}
use Rattle.daachorse_search.proofs.GivenLaws.{length-push}
use Rattle.daachorse_search.proofs.stepper.Stepper.advance.Goals as goal

pub invariant_of-self : goal.invariant_of-self
invariant_of-self g c =
    let view = g.W.Stepwise.sees in let unit = g.W.Unit.EdgeLabel in let was = c.self.inside in let stepped = c.advance-self-inside.ensures in
    let P : g.row.W-Automaton.Denot → Type 0 = λ a. view.has_depths a was.depths.now in (
      omega (arith, c.self.invariant.0, c.requires.bytes, ap (size unit.width) stepped.read, size-push unit.width (view.read was.walk) (unit.unit c.args.unit)),
      stepped.stops,
      subst P (sym stepped.automaton) c.self.invariant.2,
    )

pub returns-clause-given : goal.returns-clause-given
returns-clause-given g c =
    let view = g.W.Stepwise.sees in let unit = g.W.Unit.EdgeLabel in let was = c.self.inside.walk in let now = c.advance-self-inside.new.self in let stepped = c.advance-self-inside.ensures in
    let found = view.found (view.automaton now) in
    ap (λ t. length (at_each_end found [] t)) stepped.read
    ∙ length-push found (view.read was) (unit.unit c.args.unit)
    ∙ ap (λ t. length (at_each_end found [] (view.read was)) + length (found t)) (sym stepped.read)
    ∙ ap (λ (a : g.row.W-Automaton.Denot). length (at_each_end (view.found a) [] (view.read was)) + length (found (view.read now))) stepped.automaton
    ∙ ap (λ (s : Stepped g.row.W-Automaton.Denot). s.given + length (found (view.read now))) c.self.view_is
