-- A text is its parent's text and one unit more, so its size is that of its parent, which comes earlier, and the unit's width; the root's
-- text is empty.
use Rattle.std.proofs.Common.{rules, ◌≡◌, ℕ, ◌+◌, ◌*◌, ◌<◌, ◌≤◌, List, [], ◌∷◌, ◌++◌, length, sym, ap, ◌∙◌, subst, arith, get_or}
use Rattle.std.proofs.lemmas.List.{get_or_read, length_push}
use Rattle.std.proofs.lemmas.Grind.{elements}
use Rattle.daachorse_checker.specs.Sizes.{AreSizes}
use Rattle.daachorse_checker.proofs.RankLaws.{few}
use Rattle.daachorse_checker.proofs.SizeLaws.{size_root, size_push, short_push}
use Rattle.daachorse_checker.proofs.chains.sizes.Goals as goal

pub loop-rank-init : goal.loop-rank-init
loop-rank-init g c =
    let p = c.args.ranks.now in
    let a = c.args.array.now in
    let items = c.push.new.self.items in
    let zero : items ≡ 0 ∷ [] = search rules in
    record {
      each = ap length zero;
      short = λ k lt. (let same : k ≡ 0 = omega (arith, lt, ap length zero) in
          omega (arith, ap (λ i. get_or items i 0) same, ap (λ (xs : List ℕ). get_or xs 0 0) zero));
      are = size_root c.requires.ranks c.requires.tree (g.E.Array.sees a).width items zero;
    }

pub overflow_add-size : goal.overflow_add-size
overflow_add-size g c =
    let p = c.args.ranks.now in
    let a = c.args.array.now in
    let m = c.loop-rank.rank in
    let inv = c.loop-rank.invariant in
    let pos : 0 < m = omega (arith, c.loop-rank.auto.rank) in
    let sizes = c.loop-rank.sizes.items in
    let ranks = c.requires.ranks.ranks in
    let lt : m < length p.order.items = omega (arith, c.loop-rank-test.true, c.len-rank-end.ensures) in
    let parent : c.index.result.now ≡ get_or p.parents.items m 0 =
    get_or_read p.parents.items m c.index.result.now (omega (arith, lt, ranks.one_each)) c.index.ensures 0 in
    let up = ranks.earlier m pos lt in
    let in' : c.index.result.now < length sizes = omega (arith, parent, up, inv.each) in
    let size : c.index-in-loop-rank.result.now ≡ get_or sizes c.index.result.now 0 =
    get_or_read sizes c.index.result.now c.index-in-loop-rank.result.now in' c.index-in-loop-rank.ensures 0 in
    omega (
      arith,
      size,
      inv.short c.index.result.now in',
      c.width.ensures.short,
      parent,
      up,
      lt,
      few ranks,
      c.requires.ranks.marks_each,
      c.requires.few,
    )

pub loop-rank-preserved : goal.loop-rank-preserved
loop-rank-preserved g c =
    let p = c.args.ranks.now in
    let a = c.args.array.now in
    let m = c.loop-rank.rank in
    let inv = c.loop-rank.invariant in
    let pos : 0 < m = omega (arith, c.loop-rank.auto.rank) in
    let sizes = c.loop-rank.sizes.items in
    let ranks = c.requires.ranks.ranks in
    let lt : m < length p.order.items = omega (arith, c.loop-rank-test.true, c.len-rank-end.ensures) in
    let parent : c.index.result.now ≡ get_or p.parents.items m 0 =
    get_or_read p.parents.items m c.index.result.now (omega (arith, lt, ranks.one_each)) c.index.ensures 0 in
    let up = ranks.earlier m pos lt in
    let in' : c.index.result.now < length sizes = omega (arith, parent, up, inv.each) in
    let size : c.index-in-loop-rank.result.now ≡ get_or sizes c.index.result.now 0 =
    get_or_read sizes c.index.result.now c.index-in-loop-rank.result.now in' c.index-in-loop-rank.ensures 0 in
    let label : c.index-in-loop-rank-2.result.now ≡ get_or p.labels.items m 0 =
    get_or_read p.labels.items m c.index-in-loop-rank-2.result.now
    (omega (arith, lt, ranks.label_each)) c.index-in-loop-rank-2.ensures 0 in
    let s = c.index-in-loop-rank.result.now + c.width.result in
    let unit : c.width.result ≡ (g.E.Array.sees a).width (get_or p.labels.items m 0) = c.width.ensures.value
    ∙ ap (g.E.Array.sees a).width label in
    let from : get_or sizes c.index.result.now 0 ≡ get_or sizes (get_or p.parents.items m 0) 0 = ap (λ i. get_or sizes i 0) parent in
    let value : s ≡ get_or sizes (get_or p.parents.items m 0) 0 + (g.E.Array.sees a).width (get_or p.labels.items m 0) =
    omega (arith, size, from, unit) in
    let items : c.push-in-loop-rank.new.self.items ≡ sizes ++ s ∷ [] = search rules in
    let fits : s ≤ 4 * m = omega (arith, size, inv.short c.index.result.now in', c.width.ensures.short, parent, up) in
    let are : AreSizes (g.E.Array.sees a).child (g.E.Array.sees a).width p.order.items (sizes ++ s ∷ []) =
    size_push c.requires.ranks c.requires.tree (g.E.Array.sees a).width sizes m s pos lt inv.each inv.are value in
    record {
      each = ap length items ∙ length_push sizes s ∙ ap (λ n. n + 1) inv.each;
      short = subst (λ (xs : List ℕ). (k : ℕ) → k < length xs → get_or xs k 0 ≤ 4 * k) (sym items)
          (short_push sizes m s inv.each inv.short fits);
      are = subst (λ (xs : List ℕ). AreSizes (g.E.Array.sees a).child (g.E.Array.sees a).width p.order.items xs) (sym items) are;
    }

pub width-requires : goal.width-requires
width-requires g c = grind (arith, elements)
