-- Where there is something to give behind each unit, the first of all is given or one unit is read; elsewhere none of these stands apart.
use Rattle.std.proofs.Common.{◌≡◌, Bool, false, true, Option, Some, None, refl, sym, ◌∙◌, subst}
use Rattle.std.specs.Bool.{IsTrue}
use Rattle.std.specs.Prelude.{IfNone, IfSome}
use Rattle.std.specs.declared.num.NonZeroU32.{NonZeroU32}
use Rattle.daachorse_core.specs.Outputs.{number}
use Rattle.daachorse_search.specs.Skipping.{ComesTo}
use Rattle.daachorse_search.proofs.SkipLaws.{SkipsTo-first, SkipsTo-reads}
use Rattle.daachorse_search.proofs.matches.go_on.Goals as goal

none_apart : (first : Option NonZeroU32) (E : Type 0) (is : Bool) → IfSome first (λ _. E) → (E → IsTrue is) → is ≡ false → first ≡ None
none_apart None E is apart tells not = refl
none_apart (Some p) E is apart tells not = (let true_too : is ≡ true = tells apart in cc)

none_is : (E : Type 0) (first : Option NonZeroU32) → first ≡ None → IfSome first (λ _. E)
none_is E first none = let P : Option NonZeroU32 → Type 0 = λ o. IfSome o (λ _. E) in subst P (sym none) tt

where_none : {E : Type 0} (first : Option NonZeroU32) → E → IfNone first E
where_none None e = e
where_none (Some p) e = tt

where_some : {E : Type 0} (first : Option NonZeroU32) → E → IfSome first (λ _. E)
where_some None e = tt
where_some (Some p) e = e

pub returns-in-Some-clause-comes : goal.returns-in-Some-clause-comes
returns-in-Some-clause-comes g c =
    let view = g.W.Stepwise.sees in let rest = g.H.Haystack.rest c.args.rest.now in let walk = c.args.walk.now in let position = c.in-Some.position.value in
    let P : Option NonZeroU32 → Type 0 = λ first. ComesTo g.W.Unit.EdgeLabel.width view (g.F.Filter.passes c.args.filter.now) first walk rest c.args.taken.now position (view.given_from walk position) walk rest c.args.taken.now in
    subst P (sym c.in-Some.is ∙ c.take.ensures.value) (refl, refl, refl, refl)

pub returns-in-Some-clause-output : goal.returns-in-Some-clause-output
returns-in-Some-clause-output g c =
    let P : Option NonZeroU32 → Type 0 = λ first. g.W.Stepwise.sees.has_output c.args.walk.now (number first) in
    subst P (sym c.take.ensures.value ∙ c.in-Some.is) c.requires.place

pub returns-in-Some-clause-kept : goal.returns-in-Some-clause-kept
returns-in-Some-clause-kept g c = where_some c.args.first.now refl

pub returns-in-Some-clause-first : goal.returns-in-Some-clause-first
returns-in-Some-clause-first g c = c.take.ensures.after

pub pass_one-requires : goal.pass_one-requires
pass_one-requires g c = c.finds_everywhere.ensures.0 c.if-finds_everywhere.true

pub returns-in-None-clause-comes : goal.returns-in-None-clause-comes
returns-in-None-clause-comes g c =
    let view = g.W.Stepwise.sees in let rest = g.H.Haystack.rest in let passes = g.F.Filter.passes c.args.filter.now in let to = c.pass_one.new in let read = c.pass_one.ensures in
    let from = c.args.walk.now in let before = c.args.taken.now in
    let P : Option NonZeroU32 → Type 0 = λ first. ComesTo g.W.Unit.EdgeLabel.width view passes first from (rest c.args.rest.now) before (number c.pass_one.result) (view.given_from to.walk (number c.pass_one.result)) to.walk (rest to.rest) before in
    subst P (sym c.in-None.is ∙ c.take.ensures.value)
    (SkipsTo-reads SkipsTo-first read.reads read.fewer)

pub returns-in-None-clause-output : goal.returns-in-None-clause-output
returns-in-None-clause-output g c = c.pass_one.ensures.output

pub returns-in-None-clause-ended : goal.returns-in-None-clause-ended
returns-in-None-clause-ended g c = c.pass_one.ensures.ended

pub returns-in-None-clause-kept : goal.returns-in-None-clause-kept
returns-in-None-clause-kept g c = where_some c.args.first.now refl

pub returns-in-None-clause-first : goal.returns-in-None-clause-first
returns-in-None-clause-first g c = c.take.ensures.after

pub read_past-requires : goal.read_past-requires
read_past-requires g c = c.requires.sound

pub returns-clause-first : goal.returns-clause-first
returns-clause-first g c = none_apart c.args.first.now (g.W.Stepwise.sees.everywhere c.args.walk.now) c.finds_everywhere.result c.requires.apart c.finds_everywhere.ensures.1 c.if-finds_everywhere.false

pub returns-clause-passes : goal.returns-clause-passes
returns-clause-passes g c = c.read_past.ensures.passes

pub returns-clause-comes : goal.returns-clause-comes
returns-clause-comes g c =
    let view = g.W.Stepwise.sees in let rest = g.H.Haystack.rest in let to = c.read_past.new in let position = number c.read_past.result in
    let P : Option NonZeroU32 → Type 0 = λ first. ComesTo g.W.Unit.EdgeLabel.width view (g.F.Filter.passes c.args.filter.now) first c.args.walk.now (rest c.args.rest.now) c.args.taken.now position (view.given_from to.walk position) to.walk (rest to.rest) to.taken in
    subst P (sym (none_apart c.args.first.now (view.everywhere c.args.walk.now) c.finds_everywhere.result c.requires.apart c.finds_everywhere.ensures.1 c.if-finds_everywhere.false)) c.read_past.ensures.reads

pub returns-clause-output : goal.returns-clause-output
returns-clause-output g c = c.read_past.ensures.output

pub returns-clause-ended : goal.returns-clause-ended
returns-clause-ended g c = c.read_past.ensures.ended

pub returns-clause-idle : goal.returns-clause-idle
returns-clause-idle g c = where_none c.args.first.now c.read_past.ensures.idle

pub returns-clause-kept : goal.returns-clause-kept
returns-clause-kept g c = none_is (c.read_past.new.filter ≡ c.args.filter.now) c.args.first.now (none_apart c.args.first.now (g.W.Stepwise.sees.everywhere c.args.walk.now) c.finds_everywhere.result c.requires.apart c.finds_everywhere.ensures.1 c.if-finds_everywhere.false)
