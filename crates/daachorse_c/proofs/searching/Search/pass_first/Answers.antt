-- What is found in the rest of the haystack is what is left, and the place moves after its first match.
use Rattle.std.proofs.Common.{refl, arith}
use Rattle.daachorse_c.specs.Held.{haystack_of, searched}
use Rattle.daachorse_c.proofs.Places.{is_first, none_first, pass_none, pass_some, some_first, step_within}
use Rattle.daachorse_c.proofs.searching.Search.pass_first.Goals as goal

pub returns-in_default-clause-none : goal.returns-in_default-clause-none
returns-in_default-clause-none c =
    let a = searched c.args.self.now in let h = haystack_of c.args.self.now in
    (pass_none a h c.args.place.now c.if-place.false (none_first _ c.in_default.ensures), refl)

pub overflow_add-place : goal.overflow_add-place
overflow_add-place c =
    let a = searched c.args.self.now in let h = haystack_of c.args.self.now in let first = some_first _ c.in-Some.found c.in-Some.ensures in
    let f = is_first a h c.args.place.now.at c.requires c.in-Some.found first.0 first.1 in
    omega (arith, f.place.within, c.len-len.ensures, c.len-len.auto)

pub unit_len-step-requires : goal.unit_len-step-requires
unit_len-step-requires c =
    let a = searched c.args.self.now in let h = haystack_of c.args.self.now in let first = some_first _ c.in-Some.found c.in-Some.ensures in
    (is_first a h c.args.place.now.at c.requires c.in-Some.found first.0 first.1).place

pub pass-requires-clause-order : goal.pass-requires-clause-order
pass-requires-clause-order c =
    let a = searched c.args.self.now in let h = haystack_of c.args.self.now in let first = some_first _ c.in-Some.found c.in-Some.ensures in
    omega (arith, (is_first a h c.args.place.now.at c.requires c.in-Some.found first.0 first.1).order)

pub pass-requires-clause-within : goal.pass-requires-clause-within
pass-requires-clause-within c =
    let a = searched c.args.self.now in let h = haystack_of c.args.self.now in let first = some_first _ c.in-Some.found c.in-Some.ensures in
    omega (arith, c.len-len.ensures, (is_first a h c.args.place.now.at c.requires c.in-Some.found first.0 first.1).place.within)

pub pass-requires-clause-step : goal.pass-requires-clause-step
pass-requires-clause-step c le lt =
    let a = searched c.args.self.now in let h = haystack_of c.args.self.now in let p = c.args.place.now in let first = some_first _ c.in-Some.found c.in-Some.ensures in
    let f = is_first a h p.at c.requires c.in-Some.found first.0 first.1 in
    omega (arith, c.len-len.ensures, step_within a h p _ _ c.unit_len-step.result f c.unit_len-step.ensures (omega (arith, le)) (omega (arith, lt, c.len-len.ensures)))

pub returns-clause-within : goal.returns-clause-within
returns-clause-within c =
    let a = searched c.args.self.now in let h = haystack_of c.args.self.now in let p = c.args.place.now in let first = some_first _ c.in-Some.found c.in-Some.ensures in
    let f = is_first a h p.at c.requires c.in-Some.found first.0 first.1 in
    (pass_some a h p c.if-place.false c.in-Some.found first.0 first.1 f c.unit_len-step.result c.pass.new.self c.unit_len-step.ensures
    (rw (← c.len-len.ensures, ← c.pass.ensures.found) c.pass.ensures.behind)).0

pub returns-clause-some : goal.returns-clause-some
returns-clause-some c =
    let a = searched c.args.self.now in let h = haystack_of c.args.self.now in let p = c.args.place.now in let first = some_first _ c.in-Some.found c.in-Some.ensures in
    let f = is_first a h p.at c.requires c.in-Some.found first.0 first.1 in
    rw c.pass.ensures.found
    (pass_some a h p c.if-place.false c.in-Some.found first.0 first.1 f c.unit_len-step.result c.pass.new.self c.unit_len-step.ensures
    (rw (← c.len-len.ensures, ← c.pass.ensures.found) c.pass.ensures.behind)).1

pub returns-clause-behind : goal.returns-clause-behind
returns-clause-behind c =
    rw c.pass.ensures.found
    record {
      step = c.unit_len-step.result;
      one = c.unit_len-step.ensures;
      stands = rw (← c.len-len.ensures, ← c.pass.ensures.found) c.pass.ensures.behind;
    }
