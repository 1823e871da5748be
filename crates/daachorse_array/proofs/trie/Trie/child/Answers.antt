-- The first child with the label is the one, and there is none where all are passed.
use Rattle.std.proofs.Common.{◌≡◌, ◌∙◌, sym, get_or, arith}
use Rattle.std.proofs.lemmas.List.{get_or_read}
use Rattle.daachorse_array.proofs.FollowingLaws.{is_picked, none_picked}
use Rattle.daachorse_array.proofs.StartLaws.{is_child}
use Rattle.daachorse_array.proofs.trie.Trie.child.Goals as goal

pub returns-then-index-label : goal.returns-then-index-label
returns-then-index-label g c =
    let t = c.args.self.now in
    let r = c.requires in
    let m = c.loop-m.m in
    let inv = c.loop-m.invariant in
    let at = is_child t.parents.items c.args.starts.now r.starts c.args.p r.within m (omega (arith, c.loop-m.auto.m)) (omega (arith, c.loop-m-test.true, inv.end)) in
    let label : c.index.result.now ≡ get_or t.labels.items m 0 = get_or_read t.labels.items m c.index.result.now (omega (arith, at.1, r.trie.1.each)) c.index.ensures 0 in
    is_picked r.trie.1 m c.args.p c.args.label at.0 at.1 at.2 (sym label ∙ c.if-index-label.true)

pub returns : goal.returns
returns g c =
    let r = c.requires in
    let inv = c.loop-m.invariant in
    none_picked r.trie.1 c.args.starts.now c.args.p c.args.label r.starts r.within
    (λ k low high. inv.none k low (omega (arith, high, inv.end, c.loop-m-test.false)))
