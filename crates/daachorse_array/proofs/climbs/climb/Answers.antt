-- The element above is put on the path until its depth is known, or it is no child.
use Rattle.std.proofs.Common.{◌≡◌, ◌<◌, ◌∷◌, [], length, reverse, get_or, set, inl, inr, refl, sym, ap, ◌∙◌, arith, length-append}
use Rattle.std.proofs.lemmas.List.{get_or-set_same, get_or_read, length-reverse, reverse-append}
use Rattle.daachorse_array.proofs.ClimbLaws.{below-few, climb-found, climb-lost, climb-orphan, climb-root, edge-below, known-push, set-kept, unknown-few, unknown-set}
use Rattle.daachorse_array.proofs.climbs.climb.Goals as goal

pub up-init : goal.up-init
up-init g c =
    let empty : reverse c.args.path.now.items ≡ [] = ap reverse c.requires.empty in
    record {
      known = rw empty c.requires.known;
      climb = rw empty tt;
      inside = c.requires.element;
      room = omega (arith, ap length c.requires.empty, unknown-few c.args.depths.now.items, c.requires.known.size);
      same = refl;
      kept = λ i some. some;
      passed = inl refl;
    }

pub returns-then-depth-clause-above : goal.returns-then-depth-clause-above
returns-then-depth-clause-above g c =
    let inv = c.up.invariant in
    let read : get_or c.up.depths.items c.up.above 0 ≡ c.index-depth.result.now = sym (get_or_read c.up.depths.items c.up.above c.index-depth.result.now (omega (arith, inv.inside, inv.known.size)) c.index-depth.ensures 0) in
    climb-lost c.requires.tree (reverse c.up.path.items) c.up.depths.items c.up.above inv.known inv.climb inv.inside (read ∙ c.if-depth.true)

pub returns-then-depth-ne-NOT_KNOWN-clause-above : goal.returns-then-depth-ne-NOT_KNOWN-clause-above
returns-then-depth-ne-NOT_KNOWN-clause-above g c =
    let inv = c.up.invariant in
    let read : get_or c.up.depths.items c.up.above 0 ≡ c.index-depth.result.now = sym (get_or_read c.up.depths.items c.up.above c.index-depth.result.now (omega (arith, inv.inside, inv.known.size)) c.index-depth.ensures 0) in
    climb-found c.requires.tree (reverse c.up.path.items) c.up.depths.items c.up.above c.index-depth.result.now inv.known inv.climb inv.inside read c.if-depth-ne-NOT_KNOWN.true c.if-depth.false

pub returns-in_default-clause-above : goal.returns-in_default-clause-above
returns-in_default-clause-above g c =
    let inv = c.up.invariant in
    let path = ap reverse c.push_reserved.ensures.items ∙ reverse-append c.up.path.items (c.up.above ∷ []) in
    rw path (climb-orphan c.requires.tree c.requires.tell (reverse c.up.path.items) c.up.above inv.climb (omega (arith, c.up-test.true)) (sym c.in_default.ensures.edge))

pub up-smaller : goal.up-smaller
up-smaller g c =
    let inv = c.up.invariant in
    let less : c.up.above < length c.up.depths.items = omega (arith, inv.inside, inv.known.size) in
    let read = get_or_read c.up.depths.items c.up.above c.index-depth.result.now less c.index-depth.ensures 0 in
    omega (arith, unknown-set c.up.depths.items c.up.above 4294967294 less (sym read ∙ c.if-depth-ne-NOT_KNOWN.false))

pub returns-then-depth-ne-NOT_KNOWN-clause-few : goal.returns-then-depth-ne-NOT_KNOWN-clause-few
returns-then-depth-ne-NOT_KNOWN-clause-few g c =
    let below = returns-then-depth-ne-NOT_KNOWN-clause-above g c in
    omega (arith, below-few c.requires.tree (reverse c.up.path.items) c.index-depth.result.now (omega arith) below, length-reverse c.up.path.items)

pub up-preserved : goal.up-preserved
up-preserved g c =
    let inv = c.up.invariant in
    let above = c.up.above in
    let depths = set c.up.depths.items above 4294967295 in
    let some : 0 < above = omega (arith, c.up-test.true) in
    let less : above < length c.up.depths.items = omega (arith, inv.inside, inv.known.size) in
    let read = get_or_read c.up.depths.items above c.index-depth.result.now less c.index-depth.ensures 0 in
    let none : get_or c.up.depths.items above 0 ≡ 0 = sym read ∙ c.if-depth-ne-NOT_KNOWN.false in
    let path : reverse c.push_reserved.new.self.items ≡ above ∷ reverse c.up.path.items = ap reverse c.push_reserved.ensures.items ∙ reverse-append c.up.path.items (above ∷ []) in
    record {
      known = rw path (known-push c.requires.tree (reverse c.up.path.items) c.up.depths.items above inv.known some inv.inside none);
      climb =
          let e = sym c.in-Some.ensures.edge in
          rw path (edge-below c.requires.tree c.requires.tell above c.in-Some.parent c.in-Some._unit some inv.inside c.in-Some.ensures.inside.0 e, inv.climb);
      inside = c.in-Some.ensures.inside.0;
      room = omega (arith, inv.room, unknown-set c.up.depths.items above 4294967294 less none, ap length c.push_reserved.ensures.items, length-append c.up.path.items (above ∷ []));
      same = c.push_reserved.ensures.capacity ∙ inv.same;
      kept = λ i is. set-kept c.up.depths.items i above 4294967294 (inv.kept i is);
      passed = inr (elim inv.passed [
        | inl first ↦ (λ bad. omega (arith, bad, get_or-set_same c.up.depths.items above 4294967295 0 less, ap (λ q. get_or depths q 0) first))
        | inr old ↦ set-kept c.up.depths.items c.args.element above 4294967294 old
      ]);
    }

pub returns-clause-above : goal.returns-clause-above
returns-clause-above g c = climb-root c.requires.tree (reverse c.up.path.items) c.up.above c.up-test.false c.up.invariant.climb
