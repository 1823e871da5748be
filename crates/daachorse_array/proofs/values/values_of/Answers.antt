-- The own values of the element that the text leads to are the text's.
use Rattle.std.proofs.Common.{◌∙◌, ap, sym}
use Rattle.daachorse_model.specs.Paths.{walk}
use Rattle.daachorse_array.specs.Descents.{values_in}
use Rattle.daachorse_array.proofs.DescentLaws.{content-walk}
use Rattle.daachorse_array.proofs.values.values_of.Goals as goal

pub returns-in-Some : goal.returns-in-Some
returns-in-Some g c =
    let machine = g.L.Lookup.machine c.args.lookup.now in let text = g.H.Haystack.rest c.args.text in
    c.of.ensures
    ∙ (ap (λ o. values_in machine c.left-length.result o) (sym c.in-Some.is ∙ c.element_of.ensures.0)
    ∙ (ap (λ n. values_in machine n (walk machine.child 0 text)) c.left-length.ensures ∙ sym (content-walk g.L.Unit.EdgeLabel.width machine text)))
