-- The own text of each element is compared with the longest so far.
use Rattle.std.proofs.Common.{◌≡◌, ◌+◌, ℕ, sym, arith, rules, subst}
use Rattle.std.specs.Prelude.{max}
use Rattle.daachorse_array.specs.Arrays.{machine_of}
use Rattle.daachorse_array.proofs.LengthLaws.{IsLongestTo, longest-key, longest-next, longest-start, some-key}
use Rattle.daachorse_array.proofs.lengths.longest_text.Goals as goal

pub loop-element-init : goal.loop-element-init
loop-element-init g c =
    let view = g.E.Array.sees c.args.elements.now in
    record { so_far = longest-start view.width (machine_of view (g.E.Keys.outputs c.args.elements.now)) view.count view.units }

pub loop-element-preserved : goal.loop-element-preserved
loop-element-preserved g c =
    let view = g.E.Array.sees c.args.elements.now in
    let a = machine_of view (g.E.Keys.outputs c.args.elements.now) in
    let greater : c.max-longest.result ≡ max c.loop-element.longest c.own_length.result = search (rules, arith) in
    let P : ℕ → Type 0 = λ longest. IsLongestTo view.width a view.count view.units (c.loop-element.element + 1) longest in
    record {
      so_far = subst P (sym greater) (longest-next view.width a view.count view.units c.loop-element.element
          c.loop-element.longest c.own_length.result c.loop-element.invariant.so_far c.own_length.ensures.own c.own_length.ensures.some);
    }

pub returns-clause-none_longer : goal.returns-clause-none_longer
returns-clause-none_longer g c =
    let view = g.E.Array.sees c.args.elements.now in
    let a = machine_of view (g.E.Keys.outputs c.args.elements.now) in
    let end : c.loop-element.element ≡ view.count = let past = c.loop-element-test.false in
    omega (arith, past, c.loop-element.auto.element-end, c.num_elements-element-end.ensures.all) in
    let P : ℕ → Type 0 = λ k. IsLongestTo view.width a view.count view.units k c.loop-element.longest in
    longest-key view.width a c.requires.machine.0 view.count view.units c.requires.machine.1 c.loop-element.longest (subst P end
    c.loop-element.invariant.so_far)

pub returns-clause-some : goal.returns-clause-some
returns-clause-some g c =
    let view = g.E.Array.sees c.args.elements.now in
    let a = machine_of view (g.E.Keys.outputs c.args.elements.now) in
    let end : c.loop-element.element ≡ view.count = let past = c.loop-element-test.false in
    omega (arith, past, c.loop-element.auto.element-end, c.num_elements-element-end.ensures.all) in
    let P : ℕ → Type 0 = λ k. IsLongestTo view.width a view.count view.units k c.loop-element.longest in
    some-key view.width a c.requires.machine.0 view.count view.units c.requires.machine.1 c.loop-element.longest (subst P end
    c.loop-element.invariant.so_far)
