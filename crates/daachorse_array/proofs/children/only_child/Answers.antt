-- The one member of the group is the only child.
use Rattle.std.proofs.Common.{◌≡◌, [], ◌∷◌, sym, ap, ◌∙◌, map, arith}
use Rattle.std.proofs.lemmas.List.Sorted.{IsPermutation-refl}
use Rattle.daachorse_array.specs.Edges.{members}
use Rattle.daachorse_array.proofs.SortLaws.{kid_of, sorted-few, sorted-children}
use Rattle.daachorse_array.proofs.children.only_child.Goals as goal

pub returns-in-None : goal.returns-in-None
returns-in-None g c =
    let edge = (g.E.Array.sees c.args.edges.now).edge in
    let count = (g.E.Array.sees c.args.edges.now).count in
    let group = c.in_ok-group.group in
    let first = c.in_ok-first.first in
    let own = sym c.group.ensures ∙ c.in_ok-group.was in
    let is : first ∷ [] ≡ members edge group count =
    sym (ap (λ l. first ∷ l) c.in-None.ensures.steps.0)
    ∙ (sym c.in_ok-first.ensures.steps ∙ (c.members-members.ensures ∙ c.requires.groups.are group (c.requires.edges.tell.inside c.args.element group c.requires.element own))) in
    let list = kid_of edge first ∷ [] in
    sym (sorted-children c.requires.edges.tell c.requires.edges.inside c.args.element group c.requires.element own list list (ap (map (kid_of edge)) is) (IsPermutation-refl list) (sorted-few list (omega arith)))
