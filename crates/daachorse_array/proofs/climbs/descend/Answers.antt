-- The element that is taken off the path is given its depth.
use Rattle.std.proofs.Common.{◌≡◌, ◌+◌, [], ◌∷◌, ◌∙◌, length, reverse, ap, arith, add-one, length-append, set}
use Rattle.std.proofs.lemmas.List.{length-set, reverse-append}
use Rattle.daachorse_array.specs.Climbs.{depths_along}
use Rattle.daachorse_array.proofs.climbs.descend.Goals as goal

pub down-preserved : goal.down-preserved
down-preserved g c =
    let element = c.in-Some.element in
    let rest = c.pop.new.self.items in
    let inv = c.down.invariant in
    let steps : reverse c.down.path.items ≡ element ∷ reverse rest = ap reverse c.in-Some.ensures.items ∙ reverse-append rest (element ∷ []) in
    let left = rw steps at inv.left in
    let inside = rw steps at inv.inside in
    record {
      left = ap (λ d. depths_along d (reverse rest) (set c.down.depths.items element d)) (add-one c.down.deepest) ∙ left;
      inside = rw (length-set c.down.depths.items element (c.down.deepest + 1)) inside.1;
      few = omega (arith, inv.few, ap length c.in-Some.ensures.items, length-append rest (element ∷ []));
      same = c.pop.ensures.capacity ∙ inv.same;
    }
