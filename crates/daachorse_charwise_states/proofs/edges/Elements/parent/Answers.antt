-- An element with a base is inside, and so is a character with a code.
use Rattle.std.proofs.Common.{◌≡◌, Some, rules}
use Rattle.daachorse_charwise_states.specs.Edges.{IsLettered, edge_of}
use Rattle.daachorse_charwise_states.proofs.EdgeLaws.{edge_inside}
use Rattle.daachorse_charwise_states.proofs.edges.Elements.parent.Goals as goal

pub returns-clause-inside : goal.returns-clause-inside
returns-clause-inside g c =
    let a = c.args.self.now in
    let lettered : IsLettered a = rw (← c.self.view_is) c.self.invariant in
    let edge : edge_of a c.args.element ≡ Some (c.check_at-parent.result, c.in_ok-character.character) = search rules in
    edge_inside a lettered.letters c.args.element _ _ edge
