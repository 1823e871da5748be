-- One offset more multiplies the ways by the number of its pairs.
use Rattle.std.proofs.Common.{◌≡◌, ◌+◌, ◌-◌, ◌*◌, ◌^◌, ◌<◌, ◌≤◌, ℕ, get_or, sym, ap, ◌∙◌, subst, inl, inr, arith}
use Rattle.std.specs.Prelude.{nat_le}
use Rattle.std.proofs.lemmas.Bool.{cases_lt}
use Rattle.std.proofs.lemmas.Nat.{one_shl}
use Rattle.daachorse_prefilter.specs.Building.{count_ways}
use Rattle.daachorse_prefilter.proofs.Density.{ways_more, few_ways, too_many}
use Rattle.daachorse_prefilter.proofs.prefilter.builder.is_sparse.Goals as goal

pub loop-offset-preserved : goal.loop-offset-preserved
loop-offset-preserved c =
    let k = c.loop-offset.offset in
    let count = get_or c.args.counts.now k 0 in
    let more : c.in-Some.more ≡ c.loop-offset.ways * count = c.in-Some.ensures.1 in
    let inside : k < 8 = (let h = c.loop-offset-test.true in let high = c.requires.high in omega arith) in
    let P : ℕ → Type 0 = λ n. n ≤ 2 ^ (16 * (k + 1)) in
    record {
      product = λ entries size counted. (more
          ∙ ap (λ n. n * count) (c.loop-offset.invariant.product entries size counted)
          ∙ ap (λ n. count_ways entries k * n) (counted k inside)
          ∙ sym (ways_more entries k));
      few = λ entries size counted.
          subst P (sym more) (few_ways entries k c.loop-offset.ways count size (c.loop-offset.invariant.few entries size counted)
          (counted k inside));
    }

pub returns-in_default : goal.returns-in_default
returns-in_default c entries size counted =
    let k = c.loop-offset.offset in
    let count = get_or c.args.counts.now k 0 in
    let inside : k < 8 = (let h = c.loop-offset-test.true in let high = c.requires.high in omega arith) in
    let large : 2 ^ 128 ≤ c.loop-offset.ways * count = elim (cases_lt (c.loop-offset.ways * count) (2 ^ 128)) [
      | inl less ↦
          absurd (c.in_default.ensures less)
      | inr most ↦ most
    ] in
    sym (too_many entries k c.args.num_pairs c.loop-offset.ways count size c.loop-offset-test.true c.requires.high
    (c.loop-offset.invariant.product entries size counted) (c.loop-offset.invariant.few entries size counted) (counted k inside) large)

pub returns : goal.returns
returns c entries size counted =
    let n = c.args.num_pairs in
    let all : c.loop-offset.offset ≡ n = (let h = c.loop-offset-test.false in let e = c.loop-offset.auto.offset-end in omega arith) in
    ap (λ bound. nat_le c.loop-offset.ways bound) (one_shl (16 * n - 4) 128 (omega arith))
    ∙ ap (λ ways. nat_le ways (2 ^ (16 * n - 4))) (c.loop-offset.invariant.product entries size counted
    ∙ ap (λ k. count_ways entries k) all)
