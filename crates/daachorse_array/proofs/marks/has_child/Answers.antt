-- The element's group has a first member just where the element has a child.
use Rattle.daachorse_array.proofs.MarkLaws.{first_tells}
use Rattle.daachorse_array.proofs.marks.has_child.Goals as goal

pub returns-in-Some : goal.returns-in-Some
returns-in-Some g c =
    let view = g.E.Array.sees c.args.edges.now in
    rw c.is_some.ensures
    (first_tells view c.requires.edges c.args.element c.requires.element c.in-Some.group c.in-Some.ensures c.args.groups.now c.requires.groups _ c.next.new.self c.next.result c.members.ensures c.next.ensures.steps)
