-- Each child is put aside behind the depth.
use Rattle.std.proofs.Common.{◌≡◌, [], ◌∷◌, length, map, reverse, ap, ◌∙◌, arith, length-append}
use Rattle.std.proofs.lemmas.List.{reverse-append}
use Rattle.daachorse_array.specs.Edges.{put_before}
use Rattle.daachorse_array.specs.Trees.{elements_of}
use Rattle.daachorse_array.proofs.Members.{elements-pop, length-elements}
use Rattle.daachorse_array.proofs.children.put_aside.Goals as goal

pub loop-unit-init : goal.loop-unit-init
loop-unit-init g c = record {
  aside = ap (λ kids. put_before (map (λ j. (c.args.depth, j)) kids) (reverse c.args.aside.now.items)) c.in_ok-list_children.ensures.ok;
  few = omega (arith, ap length c.in_ok-list_children.ensures.ok, length-elements c.list_children.new.list.items);
}

pub loop-unit-preserved : goal.loop-unit-preserved
loop-unit-preserved g c =
    let child = c.in-Some-pop.child in
    let rest = c.pop.new.self.items in
    let inv = c.loop-unit.invariant in
    let steps : elements_of c.loop-unit.list.items ≡ child ∷ elements_of rest = elements-pop c.loop-unit.list.items rest (c.in-Some-pop._unit, child) c.in-Some-pop.ensures.items in
    let aside = rw steps at inv.aside in
    record {
      aside = ap (λ l. put_before (map (λ j. (c.args.depth, j)) (elements_of rest)) l) (ap reverse c.in_ok-push-2.ensures.items ∙ reverse-append c.loop-unit.aside.items ((c.args.depth, child) ∷ [])) ∙ aside;
      few = omega (arith, inv.few, ap length c.in-Some-pop.ensures.items, length-append rest ((c.in-Some-pop._unit, child) ∷ []));
    }
