-- The element is reached and has outputs of its own, so that the first of them has the length of its text.
use Rattle.std.proofs.Common.{◌≡◌, ◌-◌, true, inr, sym, ap, ◌∙◌, rules}
use Rattle.std.specs.Prelude.{slice_get}
use Rattle.std.proofs.lemmas.Option.{same_Some}
use Rattle.daachorse_core.specs.Outputs.{length_of}
use Rattle.daachorse_array.specs.Arrays.{machine_of}
use Rattle.daachorse_array.proofs.LengthLaws.{deep-reached, own-length}
use Rattle.daachorse_array.proofs.lengths.own_length.Goals as goal

pub output-requires-clause-some : goal.output-requires-clause-some
output-requires-clause-some g c =
    let view = g.E.Array.sees c.args.elements.now in
    let is : c.has_own.result ≡ true = search rules in
    let r = deep-reached c.args.depths.now c.requires.depths c.args.element c.requires.element c.if-depths-element.false in
    let first = own-length view.width (machine_of view (g.E.Keys.outputs c.args.elements.now)) c.requires.machine.0 view.count view.units
    c.requires.machine.1 c.args.element r (sym c.has_own.ensures ∙ is) in
    rw c.first-position.ensures first.1

pub returns-clause-own : goal.returns-clause-own
returns-clause-own g c r own =
    let view = g.E.Array.sees c.args.elements.now in
    let outputs = g.E.Keys.outputs c.args.elements.now in
    let first = own-length view.width (machine_of view outputs) c.requires.machine.0 view.count view.units c.requires.machine.1
    c.args.element r own in
    let same : c.output.result ≡ first.0 = same_Some _ _ (sym c.output.ensures
    ∙ (ap (λ p. slice_get outputs (p - 1)) c.first-position.ensures ∙ first.2)) in
    c.length.ensures ∙ (ap length_of same ∙ first.3)

pub returns-clause-some : goal.returns-clause-some
returns-clause-some g c =
    let is : c.has_own.result ≡ true = search rules in
    inr (
      deep-reached c.args.depths.now c.requires.depths c.args.element c.requires.element c.if-depths-element.false,
      sym
          c.has_own.ensures ∙ is,
    )
