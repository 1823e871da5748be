-- The empty text leads to element 0, so that is a state, and its text is empty.
use Rattle.std.proofs.Common.{refl}
use Rattle.daachorse_array.proofs.MachineLaws.{Reached-root, text-root}
use Rattle.daachorse_charwise_states.proofs.ViewLaws.{view_machine}
use Rattle.daachorse_charwise_states.proofs.view.ViewAutomaton.root.Goals as goal

pub returns-clause-reached : goal.returns-clause-reached
returns-clause-reached g c = Reached-root _ _ _ _ _ (view_machine _ _ _ c.self.view_is c.self.invariant.0)

pub returns-clause-text : goal.returns-clause-text
returns-clause-text g c = text-root _ _ _ _ _ (view_machine _ _ _ c.self.view_is c.self.invariant.0) 0 refl
