-- A state's position is that of its element, which for the root was read once when the view was made, and in valid parts a state's chain of outputs begins there.
use Rattle.std.proofs.Common.{◌≡◌, ◌∙◌, ap, sym}
use Rattle.daachorse_array.proofs.MachineLaws.{first-output}
use Rattle.daachorse_charwise_states.specs.Elements.{element}
use Rattle.daachorse_charwise_states.specs.Parts.{output_of}
use Rattle.daachorse_charwise_states.proofs.ViewLaws.{view_inside, view_machine, view_output, view_root_output}
use Rattle.daachorse_charwise_states.proofs.view.ViewAutomaton.output_pos.Goals as goal

pub bounds-self-inside-state : goal.bounds-self-inside-state
bounds-self-inside-state g c = view_inside _ _ _ c.self.view_is c.self.invariant.0 c.args.state c.requires

pub returns-then-state-eq-ROOT_STATE_IDX : goal.returns-then-state-eq-ROOT_STATE_IDX
returns-then-state-eq-ROOT_STATE_IDX g c =
    let root : c.args.state ≡ 0 = c.if-state-eq-ROOT_STATE_IDX.true in
    let at = ap (output_of c.args.self.now) root ∙ view_root_output _ _ _ c.self.view_is c.self.invariant.0 c.self.inside.root_output c.self.invariant.1 in
    first-output _ _ _ _ _ (view_machine _ _ _ c.self.view_is c.self.invariant.0) c.args.state c.self.inside.root_output c.requires at

pub returns : goal.returns
returns g c =
    let at = view_output _ _ _ c.self.view_is c.self.invariant.0 (element 0 0 0 0) c.args.state c.requires ∙ sym c.output_pos.ensures in
    first-output _ _ _ _ _ (view_machine _ _ _ c.self.view_is c.self.invariant.0) c.args.state c.output_pos.result c.requires at
