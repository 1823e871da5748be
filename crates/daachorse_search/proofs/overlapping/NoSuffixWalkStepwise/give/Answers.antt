-- The walk gives one match at each end, so the next position is 0, from which nothing is given.
use Rattle.std.proofs.Common.{◌≡◌, ◌+◌, ◌∷◌, ℕ, map, take, sym, subst}
use Rattle.daachorse_core.specs.Seen.{units}
use Rattle.daachorse_model.specs.Units.{size}
use Rattle.daachorse_model.specs.Matches.{shifted}
use Rattle.daachorse_search.specs.Nothing.{HasPlace-none, first_from-none}
use Rattle.daachorse_search.specs.Walks.{Walked, matches_from}
use Rattle.daachorse_search.proofs.AfreshLaws.{first_shifted}
use Rattle.daachorse_search.proofs.overlapping.NoSuffixWalkStepwise.give.Goals as goal

pub returns-clause-place : goal.returns-clause-place
returns-clause-place g c =
    let A = g.A.Automaton in let s = c.args.self.now in
    HasPlace-none g.A.Unit.EdgeLabel.width (A.sees s.automaton) s.seen (g.met.A.Automaton.no_output s.automaton)

-- the first of the matches that end here, alone
pub returns-clause-given : goal.returns-clause-given
returns-clause-given g c before is =
    let A = g.A.Automaton in let width = g.A.Unit.EdgeLabel.width in let s = c.self.inside.all in
    let from = λ (w : Walked g.row.A.Denot) (position : ℕ). matches_from width (A.sees w.automaton) w.seen position in
    let P : Walked g.row.A.Denot → Type 0 = λ w. map (shifted before) (take 1 (from w c.args.position.value)) ≡ c.give.result.0 ∷ map (shifted before) (take 1 (from w 0)) in
    let H : Walked g.row.A.Denot → Type 0 = λ w. c.args.place ≡ before + size width (units w.seen) in
    let none = first_from-none width (A.sees s.automaton) s.seen (g.met.A.Automaton.no_output s.automaton) in
    subst P c.self.view_is (first_shifted before (from s c.args.position.value) _ (take 1 (from s 0)) c.give.result.0 (c.give.ensures.given before (subst H (sym c.self.view_is) is)) none)
