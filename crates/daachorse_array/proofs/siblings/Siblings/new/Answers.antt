-- Each element is put before the others of its group.
use Rattle.std.proofs.Common.{◌≡◌, ◌∙◌, ap, arith, replicate, subst, ℕ}
use Rattle.std.proofs.lemmas.List.{length-map}
use Rattle.daachorse_array.specs.Linked.{linked_from}
use Rattle.daachorse_array.proofs.LinkedLaws.{IsGrouped, grouped-start, grouped-next, grouped-list}
use Rattle.daachorse_array.proofs.siblings.Siblings.new.Goals as goal

pub loop-element-init : goal.loop-element-init
loop-element-init g c =
    let count = (g.E.Array.sees c.args.edges.now).count in
    let first : c.in_ok-first.first.items ≡ replicate count 0 = c.in_ok-first.ensures.items_if_clones_equal (λ y e. e) ∙ ap (λ k. replicate k 0) c.num_elements-count.ensures.all in
    record {
      grouped = grouped-start (g.E.Array.sees c.args.edges.now).edge count c.in_ok-first.first.items c.in_ok-next.next.items first c.in_ok-next.ensures.items;
      room = omega (arith, c.in_ok-next.ensures.exact, c.num_elements-count.ensures.all);
    }

pub loop-element-preserved : goal.loop-element-preserved
loop-element-preserved g c =
    record {
      grouped = grouped-next (g.E.Array.sees c.args.edges.now).edge (g.E.Array.sees c.args.edges.now).count c.loop-element.element c.loop-element.first.items _ c.loop-element.next.items _ _
          c.loop-element.invariant.grouped c.put_first-link.ensures c.push_reserved.ensures.items;
      room = omega (arith, c.loop-element.invariant.room, c.push_reserved.ensures.capacity);
    }

pub returns-clause-ok : goal.returns-clause-ok
returns-clause-ok g c =
    let edge = (g.E.Array.sees c.args.edges.now).edge in
    let count = (g.E.Array.sees c.args.edges.now).count in
    let end : c.loop-element.element ≡ count = let past = c.loop-element-test.false in omega (arith, past, c.loop-element.auto.element-end, c.num_elements-count.ensures.all) in
    let P : ℕ → Type 0 = λ k. IsGrouped edge count k c.loop-element.first.items c.loop-element.next.items in
    let grouped = subst P end c.loop-element.invariant.grouped in
    record {
      are = λ q less. grouped-list edge count count c.loop-element.first.items c.loop-element.next.items grouped q less;
      each = length-map c.loop-element.first.items (linked_from c.loop-element.next.items) ∙ grouped.size;
    }
