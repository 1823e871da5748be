-- One output more in front of the list.
use Rattle.std.proofs.Common.{rules, ◌≡◌, ◌<◌, ◌+◌, ◌-◌, [], ◌∷◌, ◌++◌, length, drop, ap, ◌∙◌, append_assoc, arith}
use Rattle.std.proofs.lemmas.List.{drop_more, length_push}
use Rattle.std.proofs.lemmas.Grind.{common_steps}
use Rattle.std.proofs.lemmas.Option.{get_or_from_slice_get}
use Rattle.daachorse_core.specs.Outputs.{parent_of}
use Rattle.daachorse_build.specs.Few.{items_of}
use Rattle.daachorse_build.proofs.OutputChains.{outputs_at-push, ParentsFall-push}
use Rattle.daachorse_build.proofs.Passes.{passes_push}
use Rattle.daachorse_build.proofs.nfa_builder.outputs.push_chain.Goals as goal

pub loop-i-preserved : goal.loop-i-preserved
loop-i-preserved g c =
    let own = items_of c.args.own.now in
    let j = c.loop-i.i - 1 in
    let i = c.loop-i.invariant in
    let outputs = c.loop-i.outputs.items in
    let x = c.at-output.result in
    let made = c.new-in-loop-i.result in
    let low : j < length own = omega arith in
    let next : j + 1 ≡ c.loop-i.i = omega arith in
    let pushed = c.in_ok-push.ensures.items in
    let count : c.len-last.result ≡ length outputs + 1 = omega (arith, c.in_ok-push.ensures.len) in
    let parent : parent_of made ≡ c.loop-i.last = search rules in
    let rest : drop j own ≡ x ∷ drop c.loop-i.i own = drop_more own j x low ∙ ap (λ v. v ∷ drop (j + 1) own) (get_or_from_slice_get own j x x c.at-output.ensures) ∙ ap (λ k. x ∷ drop k own) next in
    let list = outputs_at-push outputs made x c.loop-i.last c.len-last.result i.parents c.new-in-loop-i.ensures.value c.new-in-loop-i.ensures.length parent i.fits count in
    record {
      in_range = omega arith;
      longer = (i.longer.0 ++ made ∷ [], pushed ∙ ap (λ os. os ++ made ∷ []) i.longer.1 ∙ append_assoc c.args.outputs.now.items i.longer.0 (made ∷ []));
      parents = rw pushed (ParentsFall-push outputs made c.loop-i.last i.parents parent i.fits);
      fits = omega (arith, ap length pushed, length_push outputs made, count);
      few = λ was. omega (arith, ap length pushed, length_push outputs made);
      count = omega (arith, ap length pushed, length_push outputs made, i.count, next);
      passes = rw (pushed, rest) (passes_push outputs made x (drop c.loop-i.i own) c.loop-i.last c.len-last.result c.args.parent c.new-in-loop-i.ensures.value c.new-in-loop-i.ensures.length parent count i.passes);
      list = rw (pushed, rest) (list ∙ ap (λ l. x ∷ l) i.list);
    }

pub loop-i-init : goal.loop-i-init
loop-i-init g c = grind (arith, common_steps)

pub returns-clause-chain : goal.returns-clause-chain
returns-clause-chain g c =
    let i = c.loop-i.invariant in
    let none : c.loop-i.i ≡ 0 = omega arith in
    record { count = omega (arith, i.count); few = i.few; fits = i.fits; list = rw none at i.list; passes = rw none at i.passes }
