-- Checks, bases and codes tell the children of each element, and valid parts are a right machine, whose elements lead on where their texts have a child.
use Rattle.std.proofs.Common.{length, subst}
use Rattle.std.specs.Prelude.{IfOk}
use Rattle.std.proofs.lemmas.Result.{IfOk-weaker}
use Rattle.daachorse_model.specs.Kinds.{is_leftmost}
use Rattle.daachorse_model.specs.Units.{char_width}
use Rattle.daachorse_search.specs.Views.{HasMarks}
use Rattle.daachorse_array.proofs.MarkLaws.{marks_tell}
use Rattle.daachorse_charwise_states.specs.Parts.{Parts, count, machine}
use Rattle.daachorse_charwise_states.specs.Valid.{sees}
use Rattle.daachorse_charwise_states.proofs.CharLaws.{child_inside, valid_machine}
use Rattle.daachorse_charwise_states.proofs.EdgeLaws.{valid_tells}
use Rattle.daachorse_charwise_states.proofs.states.States.child_marks.Goals as goal

pub child_marks-requires : goal.child_marks-requires
child_marks-requires g c =
    let a = c.in_ok-elements.elements in
    record { edges = record { inside = child_inside a.parts; tell = valid_tells a c.in_ok-elements.ensures.lettered.letters } }

pub returns-clause-ok : goal.returns-clause-ok
returns-clause-ok g c =
    let p = c.in_ok-elements.elements.parts in
    let right = valid_machine p c.in_ok-elements.ensures.valid in
    let P : Parts g.row.V.Denot → Type 0 = λ x. IfOk c.child_marks.result (λ v. HasMarks (sees x) v.items) in
    subst P c.in_ok-elements.ensures.parts (IfOk-weaker c.child_marks.result _ _ (λ v are. marks_tell char_width (machine p) (is_leftmost p.kind) (count p) (length p.coding.table) right v.items are) c.child_marks.ensures.ok)
