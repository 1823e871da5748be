-- No two children of a rank have one label, so by the next child's label the array still has what is near above the rank, and that says
-- what the child's link has to be.
use Rattle.std.proofs.Common.{◌≡◌, ◌+◌, ◌<◌, cond, length, get_or, set, sym, ap, ◌∙◌, subst, arith}
use Rattle.std.proofs.lemmas.List.{get_or_read, length-set}
use Rattle.daachorse_array.specs.Ranks.{stop}
use Rattle.daachorse_array.specs.Near.{up, near, right, or_top}
use Rattle.daachorse_array.specs.Tours.{IsEntering}
use Rattle.daachorse_array.proofs.SettingLaws.{entered, entering_reads, entering_next}
use Rattle.daachorse_array.proofs.StartLaws.{is_child}
use Rattle.daachorse_array.proofs.trie.Trie.enter.Goals as goal

pub returns-clause-near : goal.returns-clause-near
returns-clause-near g c e =
    let t = c.args.self.now in
    let r = c.requires in
    let inv = c.loop-m.invariant in
    entered t.parents.items t.labels.items t.stops.items t.fails.items
    (length c.args.near.now.items) r.trie r.each r.fall c.args.starts.now r.starts c.args.p r.within c.loop-m.near.items
    c.loop-m.saved.items c.args.saved.now.items c.loop-m.m (omega (arith, inv.end, c.loop-m-test.false)) inv.is

pub loop-m-preserved : goal.loop-m-preserved
loop-m-preserved g c =
    let t = c.args.self.now in
    let r = c.requires in
    let inv = c.loop-m.invariant in
    let m = c.loop-m.m in
    let p = c.args.p in
    let near' = c.loop-m.near.items in
    let saved = c.loop-m.saved.items in
    let wide : length near' ≡ length c.args.near.now.items = inv.same in
    let size : length saved ≡ length t.parents.items = inv.size ∙ r.size in
    let at = is_child t.parents.items c.args.starts.now r.starts p r.within m (omega (arith, c.loop-m.auto.m))
    (omega (arith, c.loop-m-test.true, inv.end)) in
    let label : c.index.result.now ≡ get_or t.labels.items m 0 =
    get_or_read t.labels.items m c.index.result.now (omega (arith, at.1, r.trie.each)) c.index.ensures 0 in
    let inside : c.index.result.now < length near' = omega (arith, label, r.trie.inside m at.0 at.1, wide) in
    let read : c.index-found.result.now ≡ get_or near' c.index.result.now 0 =
    get_or_read near' c.index.result.now c.index-found.result.now inside c.index-found.ensures 0 in
    let reads = entering_reads t.parents.items t.labels.items t.stops.items t.fails.items
    (length c.args.near.now.items) r.trie r.each r.fall c.args.starts.now r.starts p r.within near' saved c.args.saved.now.items m wide
    inv.is at in
    let found = read ∙ ap (λ i. get_or near' i 0) label ∙ reads in
    let fail : c.index-in-loop-m.result.now ≡ get_or t.fails.items m 0 =
    get_or_read t.fails.items m c.index-in-loop-m.result.now (omega (arith, at.1, r.each)) c.index-in-loop-m.ensures 0 in
    let link : get_or t.fails.items m 0 ≡ right t.parents.items t.labels.items t.stops.items t.fails.items p m (get_or t.labels.items m 0) =
    sym fail ∙ sym c.if-right_link-index.false ∙ c.right_link.ensures
    ∙ ap (λ x. cond (stop t.stops.items m) (length t.fails.items) (or_top x c.args.other)) found
    ∙ ap (λ x. cond (stop t.stops.items m) (length t.fails.items)
    (or_top (near t.parents.items t.labels.items t.fails.items (up t.fails.items p) (get_or t.labels.items m 0)) x)) r.other in
    let next = entering_next t.parents.items t.labels.items t.stops.items t.fails.items
    (length c.args.near.now.items) r.trie r.each r.fall c.args.starts.now r.starts p r.within near' saved c.args.saved.now.items m
    c.index-found.result.now wide size inv.is at found link in
    record {
      same = length-set near' c.index.result.now m ∙ inv.same;
      size = length-set saved m c.index-found.result.now ∙ inv.size;
      end = inv.end;
      is = subst (λ l. IsEntering t.parents.items t.labels.items t.stops.items t.fails.items (set near' l m)
          (set saved m c.index-found.result.now) c.args.saved.now.items p (m + 1)) (sym label) next;
    }
