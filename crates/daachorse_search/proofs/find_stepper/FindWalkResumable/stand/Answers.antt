-- The standard matches are those that end where the stepper stood, at its beginning and after each unit.
use Rattle.std.proofs.Common.{length, sym, ap, ◌∙◌}
use Rattle.daachorse_core.specs.Seen.{SeenUnits, units}
use Rattle.daachorse_model.specs.Matches.{standard}
use Rattle.daachorse_model.proofs.StandardEnds.{standard-joined}
use Rattle.daachorse_search.proofs.find_stepper.FindWalkResumable.stand.Goals as goal

pub returns-clause-given : goal.returns-clause-given
returns-clause-given g c =
    let A = g.A.Automaton in let width = g.A.Unit.EdgeLabel.width in let walk = c.args.self in
    let given = λ (s : SeenUnits). length (standard width (A.sees walk.automaton).content (units s)) in
    ap given c.into_standing-walk.ensures.seen ∙ sym (ap length (standard-joined width (A.sees walk.automaton).content g.met.A.Unit.EdgeLabel.wide (units walk.seen)))
