-- What is kept is valid, so that its keys are folded just where the characters that lead to its elements are.
use Rattle.std.proofs.Common.{sym, subst, rules}
use Rattle.daachorse_checker.specs.Folded.{HasFoldedKeys}
use Rattle.daachorse_checker.proofs.FoldedKeys.{keys-from-units, units-from-keys}
use Rattle.daachorse_charwise_states.specs.Parts.{Parts, content}
use Rattle.daachorse_charwise_states.proofs.CharLaws.{child_inside, valid_machine}
use Rattle.daachorse_charwise_states.proofs.EdgeLaws.{valid_tells}
use Rattle.daachorse_charwise_states.proofs.states.States.may_fold.Goals as goal

pub is_folded-requires-clause-edges : goal.is_folded-requires-clause-edges
is_folded-requires-clause-edges g c =
    let a = c.in_ok-elements.elements in
    record { inside = child_inside a.parts; tell = valid_tells a c.in_ok-elements.ensures.lettered.letters }

pub returns-clause-ok : goal.returns-clause-ok
returns-clause-ok g c =
    let is = c.in_ok-elements.ensures in
    let machine = valid_machine c.in_ok-elements.elements.parts is.valid in
    let P : Parts g.row.V.Denot → Type 0 = λ p. HasFoldedKeys (content p) in
    let folded = c.in_ok-folded.ensures in (
      λ e folds. subst P is.parts (keys-from-units _ _ _ _ _ machine (folded.ok.0 e)),
      λ each. folded.ok.1 (units-from-keys _ _ _ _ _ machine (subst P (sym is.parts) (each (search rules)))),
    )
