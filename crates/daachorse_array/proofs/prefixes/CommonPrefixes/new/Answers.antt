-- At the root all keys that begin the text are left.
use Rattle.std.proofs.Common.{◌∙◌, Some, ap, sym}
use Rattle.daachorse_array.specs.Descents.{matches_left, values_in}
use Rattle.daachorse_array.proofs.DescentLaws.{prefixes-all}
use Rattle.daachorse_array.proofs.prefixes.CommonPrefixes.new.Goals as goal

pub returns : goal.returns
returns g c =
    let width = g.L.Unit.EdgeLabel.width in let machine = g.L.Lookup.machine c.args.lookup.now in let text = g.H.Haystack.rest c.args.text in
    ap (λ vs. matches_left width machine 0 vs (Some c.root-root.result) text) c.of.ensures
    ∙ (ap (λ i. matches_left width machine 0 (values_in machine 0 (Some i)) (Some i) text) c.root-root.ensures.root ∙ sym (prefixes-all width machine text))
