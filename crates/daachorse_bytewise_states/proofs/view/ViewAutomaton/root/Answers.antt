-- The empty text leads to element 0, so that is a state, and its text is empty.
use Rattle.std.proofs.Common.{refl}
use Rattle.daachorse_array.proofs.MachineLaws.{Reached-root, text-root}
use Rattle.daachorse_bytewise_states.proofs.ViewLaws.{seen_by, seen_machine}
use Rattle.daachorse_bytewise_states.proofs.view.ViewAutomaton.root.Goals as goal

pub returns-clause-reached : goal.returns-clause-reached
returns-clause-reached g c = Reached-root _ _ _ _ _ (seen_machine (seen_by c.self.view_is c.self.invariant))

pub returns-clause-text : goal.returns-clause-text
returns-clause-text g c = text-root _ _ _ _ _ (seen_machine (seen_by c.self.view_is c.self.invariant)) 0 refl
