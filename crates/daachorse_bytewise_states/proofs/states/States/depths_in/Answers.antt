-- What is stored is valid, so that its elements are a tree.
use Rattle.daachorse_bytewise_states.proofs.EdgeLaws.{valid_tree, valid_tells}
use Rattle.daachorse_bytewise_states.proofs.states.States.depths_in.Goals as goal

pub depths-requires : goal.depths-requires
depths-requires g c = record {
  tree = valid_tree c.elements_in-elements.result c.elements_in-elements.ensures.valid c.elements_in-elements.ensures.few;
  tell = valid_tells c.elements_in-elements.result c.elements_in-elements.ensures.valid;
}
