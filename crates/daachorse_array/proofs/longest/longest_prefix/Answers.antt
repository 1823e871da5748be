-- A match further down is longer, and where there is no element none is.
use Rattle.std.proofs.Common.{◌∙◌, Some, ap, arith, sym}
use Rattle.std.specs.Option.{option_or}
use Rattle.daachorse_array.specs.Descents.{first_at}
use Rattle.daachorse_array.proofs.DescentLaws.{best_past, longest-all}
use Rattle.daachorse_array.proofs.longest.longest_prefix.Goals as goal

pub units-init : goal.units-init
units-init g c =
    let width = g.L.Unit.EdgeLabel.width in let machine = g.L.Lookup.machine c.args.lookup.now in let text = g.H.Haystack.rest c.args.text in
    let root = c.root-element in
    record {
      inside = root.ensures.inside;
      best = longest-all width machine text
          ∙ (ap (λ i. option_or (best_past width machine 0 (Some i) text) (first_at machine 0 (Some i))) (sym root.ensures.root)
          ∙ ap (λ b. option_or (best_past width machine 0 (Some root.result) text) b) (sym c.match_to-best.ensures));
      fits = omega (arith, c.requires);
    }
