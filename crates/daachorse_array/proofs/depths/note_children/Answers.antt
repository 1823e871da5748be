-- Each member of the group is a child: it is put at the end, and its depth is written.
use Rattle.std.proofs.Common.{◌≡◌, ◌+◌, ◌++◌, ◌∷◌, [], ℕ, length, refl, sym, ap, ◌∙◌, subst, arith, append_assoc, append-nil, length-append}
use Rattle.std.proofs.lemmas.List.{get_or_read}
use Rattle.daachorse_array.specs.Edges.{is_in, members}
use Rattle.daachorse_array.specs.Trees.{IsNoting}
use Rattle.daachorse_array.proofs.Members.{marking-start, marking-next}
use Rattle.daachorse_array.proofs.ReachLaws.{noting-none, noting-members}
use Rattle.daachorse_array.proofs.SortLaws.{below-All}
use Rattle.daachorse_array.proofs.depths.note_children.Goals as goal

pub returns-in_default-clause-noted : goal.returns-in_default-clause-noted
returns-in_default-clause-noted g c =
    noting-none ((g.E.Array.sees c.args.edges.now).child c.args.element) _ c.args.reached.now.items c.args.depths.now.items
    (λ u. c.requires.edges.tell.alone c.args.element u c.requires.element (sym c.in_default.ensures))

pub loop-child-init : goal.loop-child-init
loop-child-init g c =
    let edge = (g.E.Array.sees c.args.edges.now).edge in
    let count = (g.E.Array.sees c.args.edges.now).count in
    let all = members edge c.in-Some.group count in
    let is : c.into_iter-child-iterator.result ≡ all =
    c.into_iter-child-iterator.ensures.into_iter_gives ∙ c.members-child-items.ensures ∙ c.requires.groups.are c.in-Some.group (c.requires.edges.tell.inside c.args.element c.in-Some.group c.requires.element (sym c.in-Some.ensures)) in
    record {
      less = rw is (below-All (λ j. is_in c.in-Some.group (edge j)) count);
      done = ap (λ l. c.args.reached.now.items ++ l) is;
      room = omega (arith, ap length is, c.requires.room c.in-Some.group (sym c.in-Some.ensures));
      same = refl;
      marked = rw is (marking-start all (c.index.result.now + 1) c.args.depths.now.items);
    }

pub loop-child-preserved : goal.loop-child-preserved
loop-child-preserved g c =
    let edge = (g.E.Array.sees c.args.edges.now).edge in
    let count = (g.E.Array.sees c.args.edges.now).count in
    let all = members edge c.in-Some.group count in
    let child = c.in-Some-child.child in
    let left = c.next.new.self in
    let inv = c.loop-child.invariant in
    let step : c.loop-child.child-iterator ≡ child ∷ left = c.in-Some-child.ensures.steps in
    let less = rw step at inv.less in
    let done = rw step at inv.done in
    let marked = rw step at inv.marked in
    record {
      less = less.1;
      done = ap (λ l. l ++ left) c.push_reserved.ensures.items ∙ (append_assoc c.loop-child.reached.items (child ∷ []) left ∙ done);
      room = omega (arith, inv.room, ap length step, ap length c.push_reserved.ensures.items, length-append c.loop-child.reached.items (child ∷ []), c.push_reserved.ensures.capacity);
      same = c.push_reserved.ensures.capacity ∙ inv.same;
      marked = marking-next all left child (c.index.result.now + 1) c.args.depths.now.items c.loop-child.depths.items (omega (arith, less.0.0, marked.size, c.requires.size)) marked;
    }

pub returns-clause-noted : goal.returns-clause-noted
returns-clause-noted g c =
    let edge = (g.E.Array.sees c.args.edges.now).edge in
    let count = (g.E.Array.sees c.args.edges.now).count in
    let all = members edge c.in-Some.group count in
    let inv = c.loop-child.invariant in
    let none = c.in-None.ensures.steps.0 in
    let done = rw none at inv.done in
    let marked = rw none at inv.marked in
    let read = get_or_read c.args.depths.now.items c.args.element c.index.result.now (omega (arith, c.requires.element, c.requires.size)) c.index.ensures 0 in
    let P : ℕ → Type 0 = λ d. IsNoting ((g.E.Array.sees c.args.edges.now).child c.args.element) (d + 1) c.args.reached.now.items c.args.depths.now.items c.loop-child.reached.items c.loop-child.depths.items in
    subst P read (noting-members c.requires.edges.tell c.requires.edges.inside c.args.element c.in-Some.group c.requires.element (sym c.in-Some.ensures) (c.index.result.now + 1) c.args.reached.now.items c.args.depths.now.items
    c.loop-child.reached.items c.loop-child.depths.items (sym (append-nil c.loop-child.reached.items) ∙ done) marked)
