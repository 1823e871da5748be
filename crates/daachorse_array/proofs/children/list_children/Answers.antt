-- Each member of the group is a child, with its unit; the pairs are sorted, as one alone is.
use Rattle.std.proofs.Common.{◌≡◌, ◌<◌, ◌++◌, length, sym, ap, ◌∙◌, map, arith}
use Rattle.std.proofs.lemmas.List.{append-nil}
use Rattle.std.proofs.lemmas.List.Sorted.{IsPermutation-refl}
use Rattle.daachorse_core.proofs.Refusals.{at_error}
use Rattle.daachorse_array.specs.Edges.{is_in, members}
use Rattle.daachorse_array.specs.Trees.{elements_of}
use Rattle.daachorse_array.proofs.Members.{no-children}
use Rattle.daachorse_array.proofs.SortLaws.{below-All, kid_of, some-children, sorted-few, sorted-children}
use Rattle.daachorse_array.proofs.children.list_children.Goals as goal

pub returns-in_default-clause-ok : goal.returns-in_default-clause-ok
returns-in_default-clause-ok g c =
    let none = no-children (g.E.Array.sees c.args.edges.now).child c.args.element (g.E.Array.sees c.args.edges.now).units
    (λ u. c.requires.edges.tell.alone c.args.element u c.requires.element (sym c.in_default.ensures)) in
    ap elements_of c.clear.ensures.items ∙ sym none

pub loop-member-init : goal.loop-member-init
loop-member-init g c =
    let edge = (g.E.Array.sees c.args.edges.now).edge in
    let count = (g.E.Array.sees c.args.edges.now).count in
    let is : c.into_iter-member-iterator.result ≡ members edge c.in-Some.group count =
    c.into_iter-member-iterator.ensures.into_iter_gives ∙ c.members-member-items.ensures ∙ c.requires.groups.are c.in-Some.group (c.requires.edges.tell.inside c.args.element c.in-Some.group c.requires.element (sym c.in-Some.ensures)) in
    record {
      less = rw is (below-All (λ j. is_in c.in-Some.group (edge j)) count);
      done = ap (λ l. l ++ map (kid_of edge) c.into_iter-member-iterator.result) c.clear.ensures.items ∙ ap (map (kid_of edge)) is;
    }

pub returns-in_err-push-clause-some : goal.returns-in_err-push-clause-some
returns-in_err-push-clause-some g c =
    let own = sym c.in-Some.ensures in
    let less = rw c.in-Some-member.ensures.steps at c.loop-member.invariant.less in
    at_error _ _ _ c.from_residual.ensures.1 (some-children c.requires.edges.tell c.requires.edges.inside c.args.element c.in-Some.group c.requires.element own c.in-Some-member.member less.0)

pub returns-then-len-gt1-clause-ok : goal.returns-then-len-gt1-clause-ok
returns-then-len-gt1-clause-ok g c =
    let edge = (g.E.Array.sees c.args.edges.now).edge in
    let count = (g.E.Array.sees c.args.edges.now).count in
    let all : c.loop-member.list.items ≡ map (kid_of edge) (members edge c.in-Some.group count) =
    sym (append-nil c.loop-member.list.items) ∙ (ap (λ l. c.loop-member.list.items ++ map (kid_of edge) l) (sym c.in-None.ensures.steps.0) ∙ c.loop-member.invariant.done) in
    sorted-children c.requires.edges.tell c.requires.edges.inside c.args.element c.in-Some.group c.requires.element (sym c.in-Some.ensures) c.loop-member.list.items c.sort_unstable.new.self.items all
    c.sort_unstable.ensures.permutation c.sort_unstable.ensures.sorted

pub returns-else-len-gt1-clause-ok : goal.returns-else-len-gt1-clause-ok
returns-else-len-gt1-clause-ok g c =
    let edge = (g.E.Array.sees c.args.edges.now).edge in
    let count = (g.E.Array.sees c.args.edges.now).count in
    let list = c.loop-member.list.items in
    let all : list ≡ map (kid_of edge) (members edge c.in-Some.group count) =
    sym (append-nil list) ∙ (ap (λ l. list ++ map (kid_of edge) l) (sym c.in-None.ensures.steps.0) ∙ c.loop-member.invariant.done) in
    let few : length list < 2 = let other = c.if-len-gt1.false in omega (arith, other, c.len.ensures) in
    sorted-children c.requires.edges.tell c.requires.edges.inside c.args.element c.in-Some.group c.requires.element (sym c.in-Some.ensures) list list all (IsPermutation-refl list) (sorted-few list few)
