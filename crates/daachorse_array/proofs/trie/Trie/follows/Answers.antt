-- Each rank before has the link that was found.
use Rattle.std.proofs.Common.{◌≡◌, ◌<◌, ◌∙◌, sym, length, get_or, subst, inl, inr, arith, refl}
use Rattle.std.proofs.lemmas.Bool.{cases_eq, false≢true}
use Rattle.std.proofs.lemmas.List.{get_or_read}
use Rattle.daachorse_array.specs.Near.{right}
use Rattle.daachorse_array.proofs.LinkLaws.{right_checked, sound}
use Rattle.daachorse_array.proofs.trie.Trie.follows.Goals as goal

pub returns-then-link-index : goal.returns-then-link-index
returns-then-link-index g c =
    let t = c.args.self.now in
    let r = c.requires in
    let m = c.loop-m.m in
    let lt : m < length t.fails.items = omega (arith, c.loop-m-test.true, c.len-count.ensures) in
    let fail : c.index.result.now ≡ get_or t.fails.items m 0 = get_or_read t.fails.items m c.index.result.now lt c.index.ensures 0 in (
      λ e. absurd (false≢true e),
      λ links. let is = right_checked t.parents.items t.labels.items t.stops.items t.fails.items r.trie.0 r.trie.1 r.each links
          (get_or t.parents.items m 0) m (omega (arith, c.loop-m.auto.m)) (omega (arith, lt, r.each)) refl in
          absurd (c.if-link-index.true (c.in-Some.ensures ∙ sym is ∙ sym fail)),
    )

pub loop-m-preserved : goal.loop-m-preserved
loop-m-preserved g c =
    let t = c.args.self.now in
    let m = c.loop-m.m in
    let inv = c.loop-m.invariant in
    let lt : m < length t.fails.items = omega (arith, c.loop-m-test.true, c.len-count.ensures) in
    let fail : c.index.result.now ≡ get_or t.fails.items m 0 = get_or_read t.fails.items m c.index.result.now lt c.index.ensures 0 in
    let here = sym fail ∙ sym c.if-link-index.false ∙ c.in-Some.ensures in
    record {
      checked = λ k pos less high. elim (cases_eq k m) [
        | inl same ↦ subst (λ x. get_or t.fails.items x 0 ≡ right t.parents.items t.labels.items t.stops.items t.fails.items
            (get_or t.parents.items x 0) x (get_or t.labels.items x 0)) (sym same) here
        | inr other ↦ inv.checked k pos (omega (arith, less, other)) high
      ];
    }

pub returns : goal.returns
returns g c =
    let t = c.args.self.now in
    let r = c.requires in
    let inv = c.loop-m.invariant in (
      λ _. sound t.parents.items t.labels.items t.stops.items t.fails.items r.trie.0 r.trie.1 r.each r.fall
          (λ p _ m pos lt is. subst (λ x. get_or t.fails.items m 0 ≡ right t.parents.items t.labels.items t.stops.items t.fails.items x m
          (get_or t.labels.items m 0)) is
          (inv.checked m pos (omega (arith, c.loop-m-test.false, c.len-count.ensures, lt, r.each)) lt)),
      λ _. refl,
    )
