-- Each member of the group is a child, and its entry is put behind the others.
use Rattle.std.proofs.Common.{◌≡◌, sym, ◌∙◌}
use Rattle.daachorse_array.specs.Edges.{members}
use Rattle.daachorse_checker.proofs.FilterLaws.{pushed_none, pushing_done, pushing_in, pushing_next, pushing_start}
use Rattle.daachorse_checker.proofs.filters.push_children.Goals as goal

pub returns-in_default-clause-ok : goal.returns-in_default-clause-ok
returns-in_default-clause-ok g c = pushed_none c.requires.edges.tell c.requires.element c.args.next.now.items (sym c.in_default.ensures)

pub loop-member-init : goal.loop-member-init
loop-member-init g c =
    let a = c.args.array.now in
    let is : c.into_iter-member-iterator.result ≡ members (g.E.Array.sees a).edge c.in-Some.group (g.E.Array.sees a).count =
    c.into_iter-member-iterator.ensures.into_iter_gives ∙ c.members-member-items.ensures ∙ c.requires.groups.are c.in-Some.group (c.requires.edges.tell.inside c.args.entry.0 c.in-Some.group c.requires.element (sym c.in-Some.ensures)) in
    pushing_start c.requires.edges.tell c.requires.element (sym c.in-Some.ensures) c.into_iter-member-iterator.result c.args.next.now.items is
    (λ u t to. (c.requires.edges.inside c.args.entry.0 u t to).0)

pub read-window-requires : goal.read-window-requires
read-window-requires g c = pushing_in c.requires.edges.tell c.requires.element (sym c.in-Some.ensures) (rw c.in-Some-member.ensures.steps at c.loop-member.invariant)

pub loop-member-preserved : goal.loop-member-preserved
loop-member-preserved g c =
    let pushing = rw c.in-Some-member.ensures.steps at c.loop-member.invariant in
    rw c.in_ok-push.ensures.items (pushing_next c.requires.edges.tell c.requires.element (sym c.in-Some.ensures) pushing c.read-window.result c.read-window.ensures)

pub returns-clause-ok : goal.returns-clause-ok
returns-clause-ok g c = pushing_done c.requires.edges.tell c.requires.element (sym c.in-Some.ensures) c.in-None.ensures.steps.0 c.loop-member.invariant
