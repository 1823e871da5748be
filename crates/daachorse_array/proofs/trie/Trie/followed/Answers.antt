-- The link is the child of the first rank on the way up with a child by the label.
use Rattle.std.proofs.Common.{◌≡◌, ◌<◌, ◌∙◌, Some, cond, sym, ap, length, get_or, subst, arith}
use Rattle.std.proofs.lemmas.List.{get_or_read}
use Rattle.daachorse_array.specs.Following.{IsFollowing}
use Rattle.daachorse_array.specs.Ranks.{child, stop}
use Rattle.daachorse_array.specs.Near.{or_top, up}
use Rattle.daachorse_array.proofs.FollowingLaws.{following_end, following_found, following_low, following_next, following_start, is_picked}
use Rattle.daachorse_array.proofs.FollowingLaws.{picked_none, picked_some}
use Rattle.daachorse_array.proofs.trie.Trie.followed.Goals as goal

pub returns-then-is_child : goal.returns-then-is_child
returns-then-is_child g c =
    let t = c.args.self.now in
    let r = c.requires in
    let m = c.args.m in
    let l = get_or t.labels.items m 0 in
    let here = c.loop-here.here in
    let given = c.index-given.result.now in
    let is = c.loop-here.invariant.is in
    let label : c.index-label.result.now ≡ l = get_or_read t.labels.items m c.index-label.result.now
    (omega (arith, r.within, r.trie.1.each)) c.index-label.ensures 0 in
    let at = c.is_child.ensures c.if-is_child.true in
    let some : child t.parents.items t.labels.items here l ≡ Some given =
    picked_some r.trie.1 here l given (is_picked r.trie.1 given here l at.0 at.1 at.2 (at.3 ∙ label)) at.0 in
    let lt : here < length t.fails.items = omega (
      arith,
      following_low r.trie.1 r.each r.fall is,
      c.len-count.ensures,
      c.loop-here-test.true,
    ) in
    c.right_link.ensures ∙ following_found r.trie.1 r.each r.fall is m given 0 lt some

pub loop-here-preserved : goal.loop-here-preserved
loop-here-preserved g c =
    let t = c.args.self.now in
    let r = c.requires in
    let m = c.args.m in
    let p = get_or t.parents.items m 0 in
    let l = get_or t.labels.items m 0 in
    let here = c.loop-here.here in
    let found = c.child-found.result in
    let is = c.loop-here.invariant.is in
    let label : c.index-label.result.now ≡ l = get_or_read t.labels.items m c.index-label.result.now
    (omega (arith, r.within, r.trie.1.each)) c.index-label.ensures 0 in
    let none = picked_none r.trie.1 here c.index-label.result.now found c.child-found.ensures (omega (arith, c.if-found-gt0.false)) in
    let lt : here < length t.fails.items = omega (
      arith,
      following_low r.trie.1 r.each r.fall is,
      c.len-count.ensures,
      c.loop-here-test.true,
    ) in
    let next = following_next r.trie.1 r.each r.fall is lt (ap (λ x. child t.parents.items t.labels.items here x) (sym label) ∙ none) in
    record {
      is = subst (λ x. IsFollowing t.parents.items t.labels.items t.stops.items t.fails.items p l here x)
          (sym c.above-here-in-loop-here.ensures) next;
    }

pub returns : goal.returns
returns g c =
    let t = c.args.self.now in
    let r = c.requires in
    let m = c.args.m in
    let here = c.loop-here.here in
    let top : here ≡ length t.fails.items = omega (arith, c.loop-here-test.false, c.len-count.ensures) in
    c.right_link-2.ensures ∙ ap (λ x. cond (stop t.stops.items m) (length t.fails.items) (or_top 0 x)) c.root_value.ensures
    ∙ following_end r.trie.1 r.each r.fall c.loop-here.invariant.is m top

pub loop-here-init : goal.loop-here-init
loop-here-init g c =
    let t = c.args.self.now in
    let r = c.requires in
    let at : c.index-below.result.now ≡ get_or t.parents.items c.args.m 0 =
    get_or_read t.parents.items c.args.m c.index-below.result.now r.within c.index-below.ensures 0 in
    let p = get_or t.parents.items c.args.m 0 in
    let l = get_or t.labels.items c.args.m 0 in
    let lt : p < length t.fails.items = omega (arith, r.trie.1.order.earlier c.args.m r.some r.within, r.within, r.each) in
    let start : IsFollowing t.parents.items t.labels.items t.stops.items t.fails.items p l p (up t.fails.items p) =
    following_start r.trie.1 r.each r.fall p l lt in
    record {
      is = subst (λ x. IsFollowing t.parents.items t.labels.items t.stops.items t.fails.items p l x c.above-here.result) (sym at)
          (subst (λ x. IsFollowing t.parents.items t.labels.items t.stops.items t.fails.items p l p x)
          (sym (c.above-here.ensures ∙ ap (up t.fails.items) at)) start);
    }

pub bounds-starts-here : goal.bounds-starts-here
bounds-starts-here g c =
    let r = c.requires in
    omega (
      arith,
      following_low r.trie.1 r.each r.fall c.loop-here.invariant.is,
      c.len-count.ensures,
      c.loop-here-test.true,
      r.each,
      r.starts.each,
    )

pub bounds-starts-here-in-loop-here : goal.bounds-starts-here-in-loop-here
bounds-starts-here-in-loop-here g c =
    let r = c.requires in
    omega (arith, following_low r.trie.1 r.each r.fall c.loop-here.invariant.is, r.each, r.starts.each)

pub returns-then-found-gt0 : goal.returns-then-found-gt0
returns-then-found-gt0 g c =
    let t = c.args.self.now in
    let r = c.requires in
    let m = c.args.m in
    let l = get_or t.labels.items m 0 in
    let here = c.loop-here.here in
    let found = c.child-found.result in
    let is = c.loop-here.invariant.is in
    let label : c.index-label.result.now ≡ l = get_or_read t.labels.items m c.index-label.result.now
    (omega (arith, r.within, r.trie.1.each)) c.index-label.ensures 0 in
    let some = picked_some r.trie.1 here c.index-label.result.now found c.child-found.ensures c.if-found-gt0.true in
    let lt : here < length t.fails.items = omega (
      arith,
      following_low r.trie.1 r.each r.fall is,
      c.len-count.ensures,
      c.loop-here-test.true,
    ) in
    c.right_link-then-found-gt0.ensures
    ∙ following_found r.trie.1 r.each r.fall is m found 0 lt (ap (λ x. child t.parents.items t.labels.items here x) (sym label) ∙ some)

pub above-here-requires : goal.above-here-requires
above-here-requires g c =
    let t = c.args.self.now in
    let r = c.requires in
    let at : c.index-below.result.now ≡ get_or t.parents.items c.args.m 0 =
    get_or_read t.parents.items c.args.m c.index-below.result.now r.within c.index-below.ensures 0 in
    omega (arith, at, r.trie.1.order.earlier c.args.m r.some r.within, r.within, r.each, r.few)

pub child-found-requires : goal.child-found-requires
child-found-requires g c =
    let r = c.requires in
    let within : c.loop-here.here < length c.args.self.now.parents.items =
    omega (arith, following_low r.trie.1 r.each r.fall c.loop-here.invariant.is, c.len-count.ensures, c.loop-here-test.true, r.each) in
    assumption

pub above-here-requires-in-loop-here : goal.above-here-requires-in-loop-here
above-here-requires-in-loop-here g c =
    let r = c.requires in
    omega (arith, following_low r.trie.1 r.each r.fall c.loop-here.invariant.is, c.len-count.ensures, c.loop-here-test.true, r.each, r.few)
