-- What is kept is valid, so that the elements are a tree, and the character of each code tells the children.
use Rattle.daachorse_charwise_states.proofs.EdgeLaws.{valid_tree, valid_tells}
use Rattle.daachorse_charwise_states.proofs.states.States.depths.Goals as goal

pub depths_by_parents-requires : goal.depths_by_parents-requires
depths_by_parents-requires g c = record {
  tree = valid_tree c.in_ok-elements.elements.parts c.in_ok-elements.ensures.valid c.in_ok-elements.ensures.few;
  tell = valid_tells c.in_ok-elements.elements c.in_ok-elements.ensures.lettered.letters;
}
