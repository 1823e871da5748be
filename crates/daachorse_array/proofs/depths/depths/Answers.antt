-- The walk starts at the root, and is over where all that were reached were entered.
use Rattle.std.proofs.Common.{◌≡◌, ◌<◌, [], ◌∷◌, ◌++◌, replicate, ap, ◌∙◌, arith, add-one}
use Rattle.daachorse_array.proofs.ReachLaws.{reaching-start, entered-inside, entered-shallow, entered-few, entered-room, reaching-next, reaching-end}
use Rattle.daachorse_array.proofs.depths.depths.Goals as goal

pub elements-init : goal.elements-init
elements-init g c =
    let n = (g.E.Array.sees c.args.edges.now).count in
    let reached : c.push_reserved.new.self.items ≡ 0 ∷ [] = c.push_reserved.ensures.items ∙ ap (λ l. l ++ 0 ∷ []) c.in_ok-reached.ensures.items in
    let depths : c.in_ok-depths.depths.items ≡ replicate n 4294967295 = c.in_ok-depths.ensures.items_if_clones_equal (λ y e. e) ∙ ap (λ k. replicate k 4294967295) c.num_elements-count.ensures.all in
    record {
      reaching = reaching-start c.requires.tree c.push_reserved.new.self.items c.in_ok-depths.depths.items reached depths;
      room = omega (arith, c.in_ok-reached.ensures.exact, c.push_reserved.ensures.capacity, c.num_elements-count.ensures.all);
    }

pub note_children-requires-clause-element : goal.note_children-requires-clause-element
note_children-requires-clause-element g c =
    entered-inside c.requires.tree c.elements.invariant.reaching (omega (arith, c.elements-test.true, c.len.ensures)) c.index.ensures

pub note_children-requires-clause-shallow : goal.note_children-requires-clause-shallow
note_children-requires-clause-shallow g c =
    entered-shallow c.requires.tree c.elements.invariant.reaching (omega (arith, c.elements-test.true, c.len.ensures)) c.index.ensures

pub note_children-requires-clause-room : goal.note_children-requires-clause-room
note_children-requires-clause-room g c group own =
    let few = entered-room c.requires.tree c.elements.invariant.reaching (omega (arith, c.elements-test.true, c.len.ensures)) c.index.ensures c.requires.tell group own in
    omega (arith, few, c.elements.invariant.room)

pub elements-smaller : goal.elements-smaller
elements-smaller g c =
    let few : c.elements.entered < (g.E.Array.sees c.args.edges.now).count = entered-few c.requires.tree c.elements.invariant.reaching (omega (arith, c.elements-test.true, c.len.ensures)) c.index.ensures in
    omega (arith, few)

pub elements-preserved : goal.elements-preserved
elements-preserved g c = record {
  reaching = reaching-next c.requires.tree c.elements.invariant.reaching (omega (arith, c.elements-test.true, c.len.ensures)) c.index.ensures
      c.note_children.new.reached.items c.note_children.new.depths.items _ (add-one _) c.note_children.ensures.noted;
  room = omega (arith, c.elements.invariant.room, c.note_children.ensures.capacity);
}

pub returns-clause-ok : goal.returns-clause-ok
returns-clause-ok g c = reaching-end c.requires.tree c.elements.reached.items c.elements.depths.items c.elements.entered c.elements.invariant.reaching (omega arith)
