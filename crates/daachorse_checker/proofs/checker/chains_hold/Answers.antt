-- The chains are right where the root's ends behind its own outputs and that of each other rank is right, and one wrong chain is enough for
-- a no.
use Rattle.std.proofs.Common.{◌≡◌, ℕ, ◌<◌, false, length, refl, sym, ap, ◌∙◌, subst, arith, get_or}
use Rattle.std.proofs.lemmas.List.{get_or_read}
use Rattle.std.proofs.lemmas.Grind.{elements}
use Rattle.std.proofs.lemmas.Bool.{false≢true}
use borrow.Author.Count.{below_more}
use Rattle.daachorse_array.specs.Machines.{own_from}
use Rattle.daachorse_checker.specs.Chains.{IsChained, machine_of}
use Rattle.daachorse_checker.proofs.checker.chains_hold.Goals as goal

pub loop-rank-preserved : goal.loop-rank-preserved
loop-rank-preserved g c =
    let order = c.args.ranks.now.order.items in
    let m = c.loop-rank.rank in
    let a = machine_of (g.E.Array.sees c.args.array.now) c.args.outputs.now in
    let lt : m < length order = omega (arith, c.loop-rank-test.true, c.len-rank-end.ensures) in
    let at : c.index-element.result.now ≡ get_or order m 0 = get_or_read order m c.index-element.result.now lt c.index-element.ensures 0 in
    let here : IsChained a (get_or c.args.leaves.now m false) (get_or c.args.sizes.now m 0) (get_or order m 0) =
    rw at at (c.if-not-chain_holds.ensures.0 refl) in
    let P : ℕ → Type 0 = λ q. 0 < q → IsChained a (get_or c.args.leaves.now q false) (get_or c.args.sizes.now q 0) (get_or order q 0) in
    record { each = λ k pos less. below_more P m (λ q below pos. c.loop-rank.invariant.each q pos below) (λ pos. here) k less pos }

pub rest_at-requires : goal.rest_at-requires
rest_at-requires g c = record {
  runs = c.requires.runs;
  inside = omega (arith, c.first-first.ensures, c.requires.positions 0 c.requires.some, c.requires.each);
  each = omega (arith, c.requires.each);
}

pub returns-then-rest_at-ne0 : goal.returns-then-rest_at-ne0
returns-then-rest_at-ne0 g c = (
  λ e. absurd (false≢true e),
  λ chained. absurd (c.if-rest_at-ne0.true (c.rest_at.ensures ∙ ap (λ p. (own_from c.args.outputs.now p 0 p).1) c.first-first.ensures
      ∙ chained.root)),
)

pub returns : goal.returns
returns g c = (
  λ _. record {
    root = sym (c.rest_at.ensures ∙ ap (λ p. (own_from c.args.outputs.now p 0 p).1) c.first-first.ensures) ∙ c.if-rest_at-ne0.false;
    others = λ k pos lt. c.loop-rank.invariant.each k pos
        (omega (arith, lt, c.loop-rank-test.false, c.len-rank-end.ensures, c.args.ranks.now.order.ok.0));
  },
  λ _. refl,
)

pub chain_holds-requires : goal.chain_holds-requires
chain_holds-requires g c = grind (arith, elements)

pub returns-then-not-chain_holds : goal.returns-then-not-chain_holds
returns-then-not-chain_holds g c =
    let order = c.args.ranks.now.order.items in
    let m = c.loop-rank.rank in
    let a = machine_of (g.E.Array.sees c.args.array.now) c.args.outputs.now in
    let lt : m < length order = omega (arith, c.loop-rank-test.true, c.len-rank-end.ensures, c.args.ranks.now.order.ok.0) in
    let at = get_or_read order m c.index-element.result.now lt c.index-element.ensures 0 in (
      λ e. absurd (false≢true e),
      λ chained. c.if-not-chain_holds.ensures.1
          (subst (λ i. IsChained a (get_or c.args.leaves.now m false) (get_or c.args.sizes.now m 0) i) (sym at)
          (chained.others m (omega (arith, c.loop-rank.auto.rank)) lt)),
    )
