-- A state stops where its list of own outputs is not empty, if matches are leftmost.
use Rattle.std.proofs.Common.{◌≡◌, length, [], get_or, sym, ap, ◌∙◌}
use Rattle.std.specs.Prelude.{not, ◌&&◌, ◌==◌}
use Rattle.std.proofs.lemmas.List.{get_or-map}
use Rattle.daachorse_build.specs.Tables.{own_of, own_at}
use Rattle.daachorse_build.specs.Few.{items_of}
use Rattle.daachorse_build.proofs.nfa_builder.stops.Goals as goal

pub returns-then-leftmost : goal.returns-then-leftmost
returns-then-leftmost g c =
    let states = c.args.states.now in
    let x = c.index-states-id.result in
    let own : own_at (own_of states) c.args.id ≡ items_of (get_or states c.args.id x).output = get_or-map (λ s. items_of s.output) states c.args.id x [] c.requires in
    ap not c.is_empty.ensures
    ∙ ap (λ os. not (length os == 0)) (sym own)
    ∙ ap (λ b. b && not (length (own_at (own_of states) c.args.id) == 0)) (sym c.if-leftmost.true)
