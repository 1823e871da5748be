-- The walk goes on from where the standing says.
use Rattle.std.proofs.Common.{ℕ, length, refl, sym, ap, ◌∙◌, subst}
use Rattle.daachorse_core.specs.Seen.{SeenUnits, units}
use Rattle.daachorse_model.specs.Matches.{overlapping}
use Rattle.daachorse_search.specs.SearchViews.{all_view}
use Rattle.daachorse_search.specs.Standings.{OverlappingStood, IsOverlappingStanding}
use Rattle.daachorse_search.specs.Stepwise.{StandsAt, Stops}
use Rattle.daachorse_search.specs.Views.{HasDepths}
use Rattle.daachorse_search.proofs.overlapping_stepper.FindOverlappingStepper+V+A.resume.Goals as goal

pub resume-walk-requires-clause-walks : goal.resume-walk-requires-clause-walks
resume-walk-requires-clause-walks g c =
    let P : OverlappingStood → Type 0 = λ s. IsOverlappingStanding g.A.Unit.EdgeLabel.width g.A.Automaton.sees c.args.automaton s in
    (subst P (sym c.standing.view_is) c.requires.stands).walks

pub resume-walk-requires-clause-fresh : goal.resume-walk-requires-clause-fresh
resume-walk-requires-clause-fresh g c =
    let P : OverlappingStood → Type 0 = λ s. IsOverlappingStanding g.A.Unit.EdgeLabel.width g.A.Automaton.sees c.args.automaton s in
    (subst P (sym c.standing.view_is) c.requires.stands).fresh

pub invariant_of-result : goal.invariant_of-result
invariant_of-result g c =
    let sees = g.A.Automaton.sees in let width = g.A.Unit.EdgeLabel.width in
    let walk = c.resume-walk.result in let is = c.resume-walk.ensures in let inside = c.standing.inside in
    let P : OverlappingStood → Type 0 = λ s. IsOverlappingStanding width sees c.args.automaton s in
    let stands = subst P (sym c.standing.view_is) c.requires.stands in
    let S : SeenUnits → Type 0 = λ s. StandsAt width (units s) inside.place in
    let Q : g.row.A.Denot → SeenUnits → ℕ → Type 0 = λ a s n. Stops (all_view width sees) (record { automaton = a; seen = s; turns = n }) inside.found in
    let D : g.row.A.Denot → Type 0 = λ a. HasDepths (sees a) c.args.depths.now in (
      subst S (sym is.seen) stands.stands,
      subst (λ a. Q a walk.seen walk.turns) (sym is.automaton) (subst (λ s. Q c.args.automaton s walk.turns) (sym is.seen) (subst (λ n. Q c.args.automaton inside.walk.seen n) (sym is.turns) stands.found)),
      subst D (sym is.automaton) c.requires.depths,
    )

pub returns-clause-automaton : goal.returns-clause-automaton
returns-clause-automaton g c = c.resume-walk.ensures.automaton

pub returns-clause-depths : goal.returns-clause-depths
returns-clause-depths g c = refl

pub returns-clause-folds : goal.returns-clause-folds
returns-clause-folds g c = refl

pub returns-clause-read : goal.returns-clause-read
returns-clause-read g c = ap units c.resume-walk.ensures.seen ∙ ap (λ (s : OverlappingStood). units s.walk.seen) c.standing.view_is

pub returns-clause-turns : goal.returns-clause-turns
returns-clause-turns g c = c.resume-walk.ensures.turns ∙ ap (λ (s : OverlappingStood). s.walk.turns) c.standing.view_is

pub returns-clause-given : goal.returns-clause-given
returns-clause-given g c =
    let walk = c.resume-walk.result in
    let given = λ (a : g.row.A.Denot) (s : SeenUnits). length (overlapping g.A.Unit.EdgeLabel.width (g.A.Automaton.sees a).content (units s)) in
    ap (λ (a : g.row.A.Denot). given a walk.seen) c.resume-walk.ensures.automaton
    ∙ ap (given c.args.automaton) (c.resume-walk.ensures.seen ∙ ap (λ (s : OverlappingStood). s.walk.seen) c.standing.view_is)
