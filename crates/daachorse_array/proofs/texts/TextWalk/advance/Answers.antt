-- The next element is taken, and its text is written. What was left are its patterns, if it has any, and those after it.
use Rattle.std.proofs.Common.{◌≡◌, ◌⊎◌, inl, inr, ◌≤◌, [], length, map, refl, sym, ap, ◌∙◌, arith, length-append}
use Rattle.daachorse_array.specs.Listing.{values_until}
use Rattle.daachorse_array.specs.Trees.{elements_of}
use Rattle.daachorse_array.proofs.LengthLaws.{standing, values-some}
use Rattle.daachorse_array.proofs.PatternLaws.{left-of-none, left-of-rest, next-fewer, next-inside, next-left-of, next-low, next-walking}
use Rattle.daachorse_array.proofs.texts.TextWalk.advance.Goals.{else-position-stop-via-then-position-stop+else-position-ne0}
use Rattle.daachorse_array.proofs.texts.TextWalk.advance.Goals.{else-position-stop-via-else-position-stop}
use Rattle.daachorse_array.proofs.texts.TextWalk.advance.Goals as goal

pub enter-entered-requires : goal.enter-entered-requires
enter-entered-requires g c =
    let w = c.texts.invariant.walking in
    let rest = c.pop.new.self.items in
    let d = c.in-Some.depth in
    let x = c.in-Some.next in
    record {
      edges = record { inside = w.patterns.tree.inside; tell = w.patterns.tell };
      groups = record { are = w.groups_are; each = w.each };
      element = next-inside w rest d x c.in-Some.ensures.items;
      depth = next-low w rest d x c.in-Some.ensures.items;
    }

pub own_outputs-position-requires : goal.own_outputs-position-requires
own_outputs-position-requires g c = next-inside c.texts.invariant.walking c.pop.new.self.items c.in-Some.depth c.in-Some.next
    c.in-Some.ensures.items

pub texts-smaller : goal.texts-smaller
texts-smaller g c =
    next-fewer c.texts.invariant.walking c.pop.new.self.items c.in-Some.depth c.in-Some.next c.in-Some.ensures.items
    c.enter-entered.new.aside.items c.in_default-entered.ensures.aside

pub invariant_of-self-then-position-ne0 : goal.invariant_of-self-then-position-ne0
invariant_of-self-then-position-ne0 g c =
    let e = c.in_default-entered.ensures in
    let new = map g.E.Keys.number c.enter-entered.new.text.items in
    standing (next-walking c.texts.invariant.walking c.pop.new.self.items c.in-Some.depth c.in-Some.next c.in-Some.ensures.items
    c.enter-entered.new.aside.items e.aside
    new (λ h. ap (map g.E.Keys.number) (e.none h)) e.text c.own_outputs-position.result.0 c.own_outputs-position.ensures.first)

pub returns-then-position-ne0-clause-moved : goal.returns-then-position-ne0-clause-moved
returns-then-position-ne0-clause-moved g c =
    let w = c.texts.invariant.walking in
    let e = c.in_default-entered.ensures in
    let outputs = g.E.Keys.outputs c.texts.self-inside.elements in
    let rest = c.pop.new.self.items in
    let d = c.in-Some.depth in
    let x = c.in-Some.next in
    let new = map g.E.Keys.number c.enter-entered.new.text.items in
    let at = c.own_outputs-position.result.0 in
    let end = c.own_outputs-position.result.1 in
    let is = c.own_outputs-position.ensures.first in
    let inside : at ≤ length outputs = omega (arith, w.patterns.inside x (next-inside w rest d x c.in-Some.ensures.items), is) in (
      values_until outputs end at,
      values-some outputs w.patterns.falls end at c.if-position-stop.true c.if-position-ne0.true inside,
      sym c.texts.invariant.left
          ∙ sym (next-left-of w rest d x c.in-Some.ensures.items c.enter-entered.new.aside.items e.aside new (λ h. ap (map
          g.E.Keys.number) (e.none h)) e.text at is end c.own_outputs-position.ensures.stop),
    )

pub texts-preserved : goal.texts-preserved
texts-preserved g c =
    let w = c.texts.invariant.walking in
    let e = c.in_default-entered.ensures in
    let rest = c.pop.new.self.items in
    let d = c.in-Some.depth in
    let x = c.in-Some.next in
    let more = c.enter-entered.new.aside.items in
    let new = map g.E.Keys.number c.enter-entered.new.text.items in
    let none : d ≡ 0 → new ≡ [] = λ h. ap (map g.E.Keys.number) (e.none h) in
    let at = c.own_outputs-position.result.0 in
    let end = c.own_outputs-position.result.1 in
    let is = c.own_outputs-position.ensures.first in
    let past : (at ≡ end) ⊎ (at ≡ 0) = elim c.else-position-stop.branch [
      | else-position-stop-via-then-position-stop+else-position-ne0 v ↦ inr v.if-position-ne0.false
      | else-position-stop-via-else-position-stop v ↦ inl v.if-position-stop.false
    ] in
    record {
      walking = standing (next-walking w rest d x c.in-Some.ensures.items more e.aside new none e.text at is);
      left = sym (left-of-rest w.patterns new (elements_of more) end at past)
          ∙ (next-left-of w rest d x c.in-Some.ensures.items more e.aside new none e.text at is end c.own_outputs-position.ensures.stop
          ∙ c.texts.invariant.left);
    }

pub returns-clause-moved : goal.returns-clause-moved
returns-clause-moved g c =
    let s = c.texts.self-inside in
    let w = c.texts.invariant.walking in
    let none : length s.aside.items ≡ 0 = omega (arith, c.in_default.ensures.cases.0, s.aside.ok) in
    let still : length c.pop.new.self.items ≡ 0 = omega (
      arith,
      none,
      ap length c.in_default.ensures.items,
      length-append
          c.pop.new.self.items [],
    ) in (
      sym c.texts.invariant.left ∙ left-of-none w.patterns [] s.aside.items 0 0 (inr refl) none,
      left-of-none w.patterns []
          c.pop.new.self.items 0 0 (inr refl) still,
    )
