-- Where nothing is left of the last element the next one is taken, and its last unit is written; a value is given with the text.
use Rattle.std.proofs.Common.{◌≡◌, ◌⊎◌, inl, inr, ◌≤◌, ◌-◌, [], length, map, refl, sym, ap, ◌∙◌, arith, rules, length-append}
use Rattle.daachorse_core.specs.Outputs.{parent_of}
use Rattle.daachorse_array.specs.Listing.{own_end}
use Rattle.daachorse_array.specs.Trees.{elements_of}
use Rattle.daachorse_array.proofs.PatternLaws.{left-of-none, left-of-rest, left-of-value, next-fewer, next-inside, next-left-of, next-low, next-some, next-walking, some-cons}
use Rattle.daachorse_array.proofs.patterns.PatternWalkIterator.next.Goals as goal
use Rattle.daachorse_array.proofs.patterns.PatternWalkIterator.next.Goals.{then-self, else-self+then-self-eq0}

pub returns-in_default-clause-steps : goal.returns-in_default-clause-steps
returns-in_default-clause-steps g c =
    let s = c.loop-self.self-inside in
    let w = c.loop-self.invariant.walking in
    let stop = own_end (g.E.Array.sees s.elements).fail (g.E.Array.sees s.elements).first in
    let text = map g.E.Keys.number s.text.items in
    let end : (s.position ≡ s.stop) ⊎ (s.position ≡ 0) = elim c.if-self.branch [ then-self v ↦ inl v.if-self.true | else-self+then-self-eq0 v ↦ inr v.if-self-eq0.true ] in
    let none : length s.aside.items ≡ 0 = omega (arith, c.in_default.ensures.cases.0, s.aside.ok) in
    let still : length c.pop.new.self.items ≡ 0 = omega (arith, none, ap length c.in_default.ensures.items, length-append c.pop.new.self.items []) in
    let empty = left-of-none w.patterns text c.pop.new.self.items s.stop s.position end still in
    (sym c.loop-self.invariant.left ∙ left-of-none w.patterns text s.aside.items s.stop s.position end none, empty)

pub enter-entered-requires : goal.enter-entered-requires
enter-entered-requires g c =
    let w = c.loop-self.invariant.walking in
    let rest = c.pop.new.self.items in
    let d = c.in-Some.depth in
    let x = c.in-Some.next in
    record {
      edges = record { inside = w.patterns.tree.inside; tell = w.patterns.tell };
      groups = record { are = w.groups_are; each = w.each };
      element = next-inside w rest d x c.in-Some.ensures.items;
      depth = next-low w rest d x c.in-Some.ensures.items;
    }

pub loop-self-smaller : goal.loop-self-smaller
loop-self-smaller g c =
    let w = c.loop-self.invariant.walking in
    next-fewer w c.pop.new.self.items c.in-Some.depth c.in-Some.next c.in-Some.ensures.items c.enter-entered.new.aside.items c.in_default-entered.ensures.aside

pub loop-self-preserved : goal.loop-self-preserved
loop-self-preserved g c =
    let s = c.loop-self.self-inside in
    let w = c.loop-self.invariant.walking in
    let stop = own_end (g.E.Array.sees s.elements).fail (g.E.Array.sees s.elements).first in
    let number = g.E.Keys.number in
    let end : (s.position ≡ s.stop) ⊎ (s.position ≡ 0) = elim c.if-self.branch [ then-self v ↦ inl v.if-self.true | else-self+then-self-eq0 v ↦ inr v.if-self-eq0.true ] in
    let d = c.in-Some.depth in
    let x = c.in-Some.next in
    let rest = c.pop.new.self.items in
    let more = c.enter-entered.new.aside.items in
    let put = c.in_default-entered.ensures.aside in
    let new = map number c.enter-entered.new.text.items in
    let none : d ≡ 0 → new ≡ [] = λ h. ap (map number) (c.in_default-entered.ensures.none h) in
    let at = c.own_outputs-position.result.0 in
    let is = c.own_outputs-position.ensures.first in
    record {
      walking = next-walking w rest d x c.in-Some.ensures.items more put new none c.in_default-entered.ensures.text at is;
      left = next-left-of w rest d x c.in-Some.ensures.items more put new none c.in_default-entered.ensures.text at is c.own_outputs-position.result.1 c.own_outputs-position.ensures.stop
          ∙ (sym (left-of-rest w.patterns (map number s.text.items) (elements_of s.aside.items) s.stop s.position end) ∙ c.loop-self.invariant.left);
    }

pub returns-in-Ok-clause-steps : goal.returns-in-Ok-clause-steps
returns-in-Ok-clause-steps g c =
    let s = c.loop-self.self-inside in
    let w = c.loop-self.invariant.walking in
    let stop = own_end (g.E.Array.sees s.elements).fail (g.E.Array.sees s.elements).first in
    let text = map g.E.Keys.number s.text.items in
    let position : c.map_or.result ≡ parent_of c.output-output.result = search rules in
    let key : g.E.Keys.units_of c.in-Ok.key ≡ text = c.in-Ok.ensures.ok ∙ ap (map g.E.Keys.number) c.deref.ensures.value in
    rw (position, c.value.ensures, key) (sym c.loop-self.invariant.left
    ∙ left-of-value w.patterns text (elements_of s.aside.items) s.stop s.position c.output-output.result c.if-self.false c.if-self-eq0.false c.output-output.ensures)

pub returns-in-Err-clause-steps : goal.returns-in-Err-clause-steps
returns-in-Err-clause-steps g c =
    let s = c.loop-self.self-inside in
    let w = c.loop-self.invariant.walking in
    let text = map g.E.Keys.number s.text.items in
    let end : (s.position ≡ s.stop) ⊎ (s.position ≡ 0) = elim c.if-self.branch [ then-self v ↦ inl v.if-self.true | else-self+then-self-eq0 v ↦ inr v.if-self-eq0.true ] in
    let some = next-some w c.pop.new.self.items c.in-Some.depth c.in-Some.next c.in-Some.ensures.items c.in-Err.ensures.some in (
      c.in-Err.ensures.err,
      λ none. some (sym (left-of-rest w.patterns text (elements_of s.aside.items) s.stop s.position end) ∙ (c.loop-self.invariant.left ∙ none)),
      left-of-none w.patterns (map g.E.Keys.number c.enter-entered.new.text.items) c.clear.new.self.items s.stop 0 (inr refl) (ap length c.clear.ensures.items),
    )

pub returns-in-Err-key-clause-steps : goal.returns-in-Err-key-clause-steps
returns-in-Err-key-clause-steps g c =
    let s = c.loop-self.self-inside in
    let w = c.loop-self.invariant.walking in
    let stop = own_end (g.E.Array.sees s.elements).fail (g.E.Array.sees s.elements).first in
    let text = map g.E.Keys.number s.text.items in
    let given = sym c.loop-self.invariant.left
    ∙ left-of-value w.patterns text (elements_of s.aside.items) s.stop s.position c.output-output.result c.if-self.false c.if-self-eq0.false c.output-output.ensures in
    (search rules, (λ none. let bad = sym none ∙ given in cc), c.end.ensures)

pub invariant_of-self-in-Ok : goal.invariant_of-self-in-Ok
invariant_of-self-in-Ok g c =
    let s = c.loop-self.self-inside in
    let w = c.loop-self.invariant.walking in
    let position : c.map_or.result ≡ parent_of c.output-output.result = search rules in
    let inside : c.map_or.result ≤ length (g.E.Keys.outputs s.elements) = omega (arith, position, w.patterns.falls (s.position - 1) c.output-output.result c.output-output.ensures, w.inside) in
    assumption (inside, w)

pub returns-in-Err-key-clause-goes : goal.returns-in-Err-key-clause-goes
returns-in-Err-key-clause-goes g c = let e = returns-in-Err-key-clause-steps g c in rw (e.2, (some-cons c.args.self.now e.1).2) (search rules)

pub returns-in-Err-clause-goes : goal.returns-in-Err-clause-goes
returns-in-Err-clause-goes g c = let e = returns-in-Err-clause-steps g c in rw (e.2, (some-cons c.args.self.now e.1).2) (search rules)

pub returns-in-Ok-clause-goes : goal.returns-in-Ok-clause-goes
returns-in-Ok-clause-goes g c = let e = returns-in-Ok-clause-steps g c in rw e (search rules)

pub own_outputs-position-requires : goal.own_outputs-position-requires
own_outputs-position-requires g c = next-inside c.loop-self.invariant.walking c.pop.new.self.items c.in-Some.depth c.in-Some.next c.in-Some.ensures.items
