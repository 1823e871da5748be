-- The filter is worth asking where there is one and its gates are open: so at the start, when there is no whole group of runs.
use Rattle.std.proofs.Common.{[], sym, ◌∙◌, subst, arith}
use Rattle.std.specs.Prelude.{IsSome}
use Rattle.daachorse_prefilter.specs.Asked.{Asked}
use Rattle.daachorse_prefilter.proofs.SkipLaws.{still_some}
use Rattle.daachorse_prefilter.proofs.skipping.Skipping.is_worth.Goals as goal

pub returns-then-is_some-clause-unused : goal.returns-then-is_some-clause-unused
returns-then-is_some-clause-unused g c = λ unused. (c.are_open.ensures [] unused.1).1 (λ k less. absurd (omega (arith, less)), unused.2)

pub returns-then-is_some-clause-paying : goal.returns-then-is_some-clause-paying
returns-then-is_some-clause-paying g c = λ gains recorded.
    let Q : Asked → Type 0 = λ s. IsSome s.filter in
    let are_open = c.are_open.ensures gains recorded in
    let some = subst Q c.self.view_is (still_some _ c.self.inside.filter (sym c.is_some.ensures ∙ c.if-is_some.true)) in
    (λ yes. (some, (are_open.0 yes).0, (are_open.0 yes).1), λ all. are_open.1 (all.1, all.2))

pub returns-then-is_some-clause-asked : goal.returns-then-is_some-clause-asked
returns-then-is_some-clause-asked g c = λ yes gains recorded.
    let Q : Asked → Type 0 = λ s. IsSome s.filter in
    (subst Q c.self.view_is (still_some _ c.self.inside.filter (sym c.is_some.ensures ∙ c.if-is_some.true)), ((c.are_open.ensures gains recorded).0 yes).0)
