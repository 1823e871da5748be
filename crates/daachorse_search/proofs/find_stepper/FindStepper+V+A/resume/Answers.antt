-- The standard matches are those that end where the stepper stood, at its beginning and after each unit.
use Rattle.std.proofs.Common.{length, ap, ◌∙◌}
use Rattle.daachorse_core.specs.Seen.{SeenUnits, units}
use Rattle.daachorse_model.specs.Matches.{standard}
use Rattle.daachorse_model.proofs.StandardEnds.{standard-joined}
use Rattle.daachorse_search.specs.Standings.{FindStood}
use Rattle.daachorse_search.proofs.find_stepper.FindStepper+V+A.resume.Goals as goal

pub returns-clause-given : goal.returns-clause-given
returns-clause-given g c =
    let A = g.A.Automaton in let width = g.A.Unit.EdgeLabel.width in let walk = c.resume-walk.result in
    let given = λ (a : g.row.A.Denot) (s : SeenUnits). length (standard width (A.sees a).content (units s)) in
    ap length (standard-joined width (A.sees walk.automaton).content g.met.A.Unit.EdgeLabel.wide (units walk.seen))
    ∙ ap (given walk.automaton) (c.resume-walk.ensures.seen ∙ ap (λ (s : FindStood). s.walk.seen) c.standing.view_is)
    ∙ ap (λ (a : g.row.A.Denot). given a c.args.standing.walk.seen) c.resume-walk.ensures.automaton
