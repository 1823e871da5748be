-- The lookup goes over the edges of the state.
use Rattle.std.proofs.Common.{[], sym, ap, ◌∙◌}
use Rattle.std.proofs.lemmas.List.{get_or-map}
use Rattle.daachorse_build.specs.EdgeMaps.{id_at}
use Rattle.daachorse_build.proofs.nfa_builder.child.Goals as goal

pub returns : goal.returns
returns g c =
    let edges = get_or-map (λ s. s.edges) c.args.states.now c.args.id c.index-states-id.result [] c.requires in
    c.copied.ensures ∙ (c.get.ensures ∙ ap (λ es. id_at g.L.Ord.cmp es c.args.label) (sym edges))
