-- The units passed are what the rest is cut off from.
use Rattle.std.proofs.Common.{◌≡◌, ◌≤◌, ◌++◌, ℕ, true, List, subst, arith}
use Rattle.std.proofs.lemmas.Grind.{common_steps}
use Rattle.std.specs.Prelude.{count_by}
use Rattle.daachorse_haystack.specs.Filters.{PassesNowhere, count_passing}
use Rattle.daachorse_search.specs.Matches.{Progress}
use Rattle.daachorse_search.proofs.LeftmostLaws.{passed_parts, passing_least, labelled_least}
use Rattle.daachorse_search.proofs.leftmost.LeftmostMatches.turns_are_bounded.Goals as goal

pub returns-clause-passed : goal.returns-clause-passed
returns-clause-passed g c =
    let P : Progress g.row.V.Denot g.row.A.Denot g.row.F.Denot → Type 0 = λ p. (back : List ℕ) × (p.haystack ≡ p.passed ++ back) in
    subst P c.self.view_is (passed_parts c.self.invariant.1)

pub returns-clause-passing : goal.returns-clause-passing
returns-clause-passing g c =
    let A = g.A.Automaton in let F = g.F.Filter in
    let P : Progress g.row.V.Denot g.row.A.Denot g.row.F.Denot → Type 0 = λ p. count_passing (F.passes p.filter) (A.sees p.automaton).has_label p.haystack p.passed ≤ p.turns in
    subst P c.self.view_is (passing_least c.self.invariant.1)

pub returns-clause-least : goal.returns-clause-least
returns-clause-least g c =
    let A = g.A.Automaton in let F = g.F.Filter in
    let P : Progress g.row.V.Denot g.row.A.Denot g.row.F.Denot → Type 0 = λ p. ((w : List ℕ) → F.passes p.filter w ≡ true) → count_by (A.sees p.automaton).has_label p.passed ≤ p.turns in
    subst P c.self.view_is (labelled_least c.self.invariant.1)

pub returns-clause-idle : goal.returns-clause-idle
returns-clause-idle g c =
    let F = g.F.Filter in
    let P : Progress g.row.V.Denot g.row.A.Denot g.row.F.Denot → Type 0 = λ p. F.opened p.filter → PassesNowhere (F.passes p.filter) p.haystack → p.turns ≡ 0 in
    subst P c.self.view_is (λ was_open nowhere. (c.self.invariant.1.idle was_open nowhere).0)

pub returns-clause-most : goal.returns-clause-most
returns-clause-most g c = grind (arith, common_steps)
