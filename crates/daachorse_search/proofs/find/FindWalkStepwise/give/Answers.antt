-- Of the matches that end here the walk gives the first and the search takes it alone, so nothing is given from the next position on.
use Rattle.std.proofs.Common.{◌≡◌, ◌+◌, ◌∷◌, ℕ, map, take, sym, subst}
use Rattle.daachorse_core.specs.Seen.{units}
use Rattle.daachorse_model.specs.Units.{size}
use Rattle.daachorse_model.specs.Matches.{shifted}
use Rattle.daachorse_search.specs.Nothing.{first_from-none}
use Rattle.daachorse_search.specs.Walks.{Walked, matches_from}
use Rattle.daachorse_search.proofs.AfreshLaws.{first_shifted}
use Rattle.daachorse_search.proofs.find.FindWalkStepwise.give.Goals as goal

pub returns-clause-given : goal.returns-clause-given
returns-clause-given g c before is =
    let A = g.A.Automaton in let width = g.A.Unit.EdgeLabel.width in let s = c.self.inside.walk in
    let from = λ (w : Walked g.row.A.Denot) (position : ℕ). matches_from width (A.sees w.automaton) w.seen position in
    let P : Walked g.row.A.Denot → Type 0 = λ w. map (shifted before) (take 1 (from w c.args.position.value)) ≡ c.give.result.0 ∷ map (shifted before) (take 1 (from w 0)) in
    let H : Walked g.row.A.Denot → Type 0 = λ w. c.args.place ≡ before + size width (units w.seen) in
    let none = first_from-none width (A.sees s.automaton) s.seen (g.met.A.Automaton.no_output s.automaton) in
    subst P c.self.view_is (first_shifted before (from s c.args.position.value) _ (take 1 (from s 0)) c.give.result.0 (c.give.ensures.matches before (subst H (sym c.self.view_is) is)) none)
