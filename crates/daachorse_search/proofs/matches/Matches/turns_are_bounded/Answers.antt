-- The turns are those up to where the walk began, and those of the walk.
use Rattle.std.proofs.Common.{◌≡◌, ◌≢◌, [], ◌+◌, ◌≤◌, ◌++◌, ℕ, true, List, length, refl, sym, ap, ◌∙◌, subst, append_assoc, arith}
use Rattle.std.proofs.lemmas.Grind.{common_steps}
use Rattle.daachorse_haystack.specs.Filters.{count_passing}
use Rattle.daachorse_search.specs.Matches.{AreBoundedBehind, Progress}
use Rattle.daachorse_search.proofs.SkipLaws.{passed_is, reading-bounded, reading-plain, reading-single}
use Rattle.daachorse_search.proofs.matches.Matches.turns_are_bounded.Goals as goal

pub returns-clause-passing : goal.returns-clause-passing
returns-clause-passing g c =
    let view = g.W.Stepwise.sees in let F = g.F.Filter in let walked = c.turns_are_bounded.ensures in
    let P : Progress g.row.V.Denot g.row.W-Automaton.Denot g.row.F.Denot → Type 0 = λ s. count_passing (F.passes s.filter) (view.looks_at s.automaton) s.haystack s.passed ≤ s.turns in
    subst P c.self.view_is (reading-bounded c.self.invariant.1 walked.most walked.least).1

pub returns-clause-single : goal.returns-clause-single
returns-clause-single g c =
    let view = g.W.Stepwise.sees in
    let P : Progress g.row.V.Denot g.row.W-Automaton.Denot g.row.F.Denot → Type 0 = λ s. view.ends_at_once s.automaton → s.turns ≤ length s.passed in
    subst P c.self.view_is (reading-single c.self.invariant.1 c.turns_are_bounded.ensures.single)

-- the walk began last behind the base
pub returns-clause-behind : goal.returns-clause-behind
returns-clause-behind g c =
    let view = g.W.Stepwise.sees in let i = c.self.inside in let was = c.self.invariant.1 in
    let P : Progress g.row.V.Denot g.row.W-Automaton.Denot g.row.F.Denot → Type 0 = λ s. AreBoundedBehind view.bounds s.automaton s.passed s.since s.turns in
    subst P c.self.view_is (record {
      base = was.base;
      before = i.taken;
      after = view.turns i.walk;
      parts = passed_is was;
      sum = refl;
      most = was.most;
      walked = c.turns_are_bounded.ensures.bounds;
    })

-- where the filter passes everywhere, the walk began at the beginning
pub returns-clause-bounds : goal.returns-clause-bounds
returns-clause-bounds g c =
    let view = g.W.Stepwise.sees in let F = g.F.Filter in let i = c.self.inside in let walked = c.turns_are_bounded.ensures in
    let P : Progress g.row.V.Denot g.row.W-Automaton.Denot g.row.F.Denot → Type 0 = λ s. ((w : List ℕ) → F.passes s.filter w ≡ true) → view.bounds s.automaton s.passed s.turns in
    let Q : List ℕ → Type 0 = λ x. view.bounds (view.automaton i.walk) x (i.taken + view.turns i.walk) in
    let R : ℕ → Type 0 = λ n. view.bounds (view.automaton i.walk) (view.read i.walk) n in
    subst P c.self.view_is (λ everywhere.
    let plain = reading-plain c.self.invariant.1 everywhere in
    subst Q (sym plain.0) (subst R (sym plain.1) walked.bounds))

-- where a key is empty, the filter passes everywhere
pub returns-clause-keyed : goal.returns-clause-keyed
returns-clause-keyed g c =
    let view = g.W.Stepwise.sees in let i = c.self.inside in let walked = c.turns_are_bounded.ensures in let was = c.self.invariant.1 in
    let P : Progress g.row.V.Denot g.row.W-Automaton.Denot g.row.F.Denot → Type 0 = λ s. view.content s.automaton [] ≢ [] → view.bounds s.automaton s.passed s.turns in
    let Q : List ℕ → Type 0 = λ x. view.bounds (view.automaton i.walk) x (i.taken + view.turns i.walk) in
    let R : ℕ → Type 0 = λ n. view.bounds (view.automaton i.walk) (view.read i.walk) n in
    subst P c.self.view_is (λ keyed.
    let plain = reading-plain was (λ w. was.sound [] w keyed) in
    subst Q (sym plain.0) (subst R (sym plain.1) walked.bounds))

-- what is left of the haystack comes after the units passed
pub returns-clause-passed : goal.returns-clause-passed
returns-clause-passed g c =
    let view = g.W.Stepwise.sees in let rest = g.H.Haystack.rest in let i = c.self.inside in let was = c.self.invariant.1 in
    let P : Progress g.row.V.Denot g.row.W-Automaton.Denot g.row.F.Denot → Type 0 = λ s. (back : List ℕ) × (s.haystack ≡ s.passed ++ back) in
    subst P c.self.view_is (
      rest i.rest,
      was.parts ∙ sym (append_assoc was.base (view.read i.walk) (rest i.rest))
          ∙ ap (λ x. x ++ rest i.rest) (sym (passed_is c.self.invariant.1)),
    )

pub returns-clause-most : goal.returns-clause-most
returns-clause-most g c = grind (arith, common_steps)
