-- The element that is borrowed has the output position that the parts have there, and valid parts are a right machine, in which a state's chain begins at that position.
use Rattle.std.proofs.Common.{◌∙◌, arith, sym}
use Rattle.daachorse_array.proofs.MachineLaws.{first-output}
use Rattle.daachorse_bytewise_states.proofs.ViewLaws.{seen_by, seen_inside, seen_machine, seen_output}
use Rattle.daachorse_bytewise_states.proofs.view.ViewAutomaton.output_pos.Goals as goal

pub bounds-states-state : goal.bounds-states-state
bounds-states-state g c = seen_inside (seen_by c.self.view_is c.self.invariant) c.args.state c.requires

pub offset_bounds-states-state : goal.offset_bounds-states-state
offset_bounds-states-state g c = omega (arith, seen_inside (seen_by c.self.view_is c.self.invariant) c.args.state c.requires)

pub returns : goal.returns
returns g c =
    let seen = seen_by c.self.view_is c.self.invariant in
    first-output _ _ _ _ _ (seen_machine seen) c.args.state c.output_pos.result c.requires (seen_output seen _ c.args.state c.index-states-state.is c.requires ∙ sym c.output_pos.ensures)
