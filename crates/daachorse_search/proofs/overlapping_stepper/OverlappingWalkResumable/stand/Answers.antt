-- What the walk saw and took is what its standing has.
use Rattle.std.proofs.Common.{ℕ, length, sym, ap, subst}
use Rattle.daachorse_core.specs.Seen.{SeenUnits, units}
use Rattle.daachorse_model.specs.Matches.{overlapping}
use Rattle.daachorse_search.specs.SearchViews.{all_view}
use Rattle.daachorse_search.specs.Stepwise.{StandsAt, Stops}
use Rattle.daachorse_search.proofs.overlapping_stepper.OverlappingWalkResumable.stand.Goals as goal

pub returns-clause-stands : goal.returns-clause-stands
returns-clause-stands g c =
    let sees = g.A.Automaton.sees in let width = g.A.Unit.EdgeLabel.width in let walk = c.args.self in let is = c.into_standing-walk.ensures in
    let P : SeenUnits → Type 0 = λ s. StandsAt width (units s) c.args.place in
    let Q : SeenUnits → ℕ → Type 0 = λ s n. Stops (all_view width sees) (record { automaton = walk.automaton; seen = s; turns = n }) c.args.found in
    record {
      walks = is.walks;
      fresh = is.fresh;
      stands = subst P (sym is.seen) c.requires.place;
      found = subst (λ s. Q s c.into_standing-walk.result.turns) (sym is.seen) (subst (λ n. Q walk.seen n) (sym is.turns) c.requires.found);
    }

pub returns-clause-read : goal.returns-clause-read
returns-clause-read g c = ap units c.into_standing-walk.ensures.seen

pub returns-clause-turns : goal.returns-clause-turns
returns-clause-turns g c = c.into_standing-walk.ensures.turns

pub returns-clause-given : goal.returns-clause-given
returns-clause-given g c =
    let given = λ (s : SeenUnits). length (overlapping g.A.Unit.EdgeLabel.width (g.A.Automaton.sees c.args.self.automaton).content (units s)) in
    ap given c.into_standing-walk.ensures.seen
