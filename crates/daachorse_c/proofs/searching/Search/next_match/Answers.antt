-- What is found at the place follows it, unless it is an empty leftmost match right after a nonempty one.
use Rattle.std.proofs.Common.{◌≡◌, [], true, sym, ◌∙◌}
use Rattle.std.proofs.lemmas.Option.{IfSome_then}
use Rattle.std.proofs.lemmas.Bool.{false≢true}
use Rattle.daachorse_c.specs.Held.{haystack_of, searched}
use Rattle.daachorse_c.specs.Places.{afresh, left_of}
use Rattle.daachorse_c.proofs.Places.{left_kept, left_none, left_past, none_weaker, pass_over}
use Rattle.daachorse_c.proofs.searching.Search.next_match.Goals as goal

pub returns-in_default-clause-none : goal.returns-in_default-clause-none
returns-in_default-clause-none c =
    let a = searched c.args.self.now in let h = haystack_of c.args.self.now in let none = c.in_default.ensures.none in
    (left_none a h c.args.place.now none.0, pass_over a h c.pass_first.new.place none.1)

pub returns-then-leaves_out-clause-none : goal.returns-then-leaves_out-clause-none
returns-then-leaves_out-clause-none c =
    let a = searched c.args.self.now in let h = haystack_of c.args.self.now in
    let p = c.args.place.now in let q = c.pass_first.new.place in let out = c.leaves_out.ensures.0 c.if-leaves_out.true in
    let back = left_past a h p q out.0 out.2 c.in-Some.found c.in-Some.ensures.some out.1 c.in-Some.ensures.clear in
    let again = c.pass_first-then-leaves_out in
    none_weaker again.result ((left_of a h (afresh q) ≡ []) × (again.new.place.over ≡ true)) ((left_of a h p ≡ []) × (left_of a h again.new.place ≡ []))
    (λ x. (back ∙ x.0, pass_over a h again.new.place x.1)) again.ensures.none

pub returns-then-leaves_out-clause-some : goal.returns-then-leaves_out-clause-some
returns-then-leaves_out-clause-some c =
    let a = searched c.args.self.now in let h = haystack_of c.args.self.now in
    let p = c.args.place.now in let q = c.pass_first.new.place in let out = c.leaves_out.ensures.0 c.if-leaves_out.true in
    let back = left_past a h p q out.0 out.2 c.in-Some.found c.in-Some.ensures.some out.1 c.in-Some.ensures.clear in
    let again = c.pass_first-then-leaves_out in
    IfSome_then again.result again.ensures.some (λ x e. back ∙ e)

pub returns-clause-some : goal.returns-clause-some
returns-clause-some c =
    let a = searched c.args.self.now in let h = haystack_of c.args.self.now in
    left_kept a h c.args.place.now c.in-Some.found _ c.in-Some.ensures.some c.in-Some.ensures.end (λ is. false≢true (sym c.if-leaves_out.false ∙ c.leaves_out.ensures.1 is))

pub returns-in_default-clause-over : goal.returns-in_default-clause-over
returns-in_default-clause-over c = c.in_default.ensures.none.1

pub returns-then-leaves_out-clause-over : goal.returns-then-leaves_out-clause-over
returns-then-leaves_out-clause-over c =
    let a = searched c.args.self.now in let h = haystack_of c.args.self.now in let again = c.pass_first-then-leaves_out in
    none_weaker again.result ((left_of a h (afresh c.pass_first.new.place) ≡ []) × (again.new.place.over ≡ true)) (again.new.place.over ≡ true)
    (λ x. x.1) again.ensures.none

pub returns-then-leaves_out-clause-behind : goal.returns-then-leaves_out-clause-behind
returns-then-leaves_out-clause-behind c = c.pass_first-then-leaves_out.ensures.behind

pub returns-clause-behind : goal.returns-clause-behind
returns-clause-behind c = c.in-Some.ensures.behind
