-- What is stored is valid, so that its elements are a tree and a right machine.
use Rattle.daachorse_model.specs.Kinds.{is_leftmost}
use Rattle.daachorse_bytewise_states.proofs.ByteLaws.{valid_machine}
use Rattle.daachorse_bytewise_states.proofs.EdgeLaws.{valid_tree}
use Rattle.daachorse_bytewise_states.proofs.states.States.longest.Goals as goal

pub longest_text-requires-clause-machine : goal.longest_text-requires-clause-machine
longest_text-requires-clause-machine g c = (is_leftmost c.elements-elements.result.kind, valid_machine c.elements-elements.result c.elements-elements.ensures.valid)

pub longest_text-requires-clause-tree : goal.longest_text-requires-clause-tree
longest_text-requires-clause-tree g c = valid_tree c.elements-elements.result c.elements-elements.ensures.valid c.elements-elements.ensures.few
