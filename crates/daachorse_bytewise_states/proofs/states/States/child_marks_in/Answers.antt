-- Bases and checks tell the children of each element, and valid parts are a right machine, whose elements lead on where their texts have a child.
use Rattle.std.proofs.Common.{subst}
use Rattle.std.specs.Prelude.{IfOk}
use Rattle.std.proofs.lemmas.Result.{IfOk-weaker}
use Rattle.daachorse_model.specs.Kinds.{is_leftmost}
use Rattle.daachorse_model.specs.Units.{byte_width}
use Rattle.daachorse_search.specs.Views.{HasMarks}
use Rattle.daachorse_array.proofs.MarkLaws.{marks_tell}
use Rattle.daachorse_bytewise_states.specs.Parts.{Parts, count, machine}
use Rattle.daachorse_bytewise_states.specs.Valid.{sees}
use Rattle.daachorse_bytewise_states.proofs.ByteLaws.{child_inside, valid_machine}
use Rattle.daachorse_bytewise_states.proofs.EdgeLaws.{valid_tells}
use Rattle.daachorse_bytewise_states.proofs.states.States.child_marks_in.Goals as goal

pub child_marks-requires : goal.child_marks-requires
child_marks-requires g c =
    let p = c.elements_in-elements.result in
    record { edges = record { inside = child_inside p; tell = valid_tells p c.elements_in-elements.ensures.valid } }

pub returns-clause-ok : goal.returns-clause-ok
returns-clause-ok g c =
    let p = c.elements_in-elements.result in
    let right = valid_machine p c.elements_in-elements.ensures.valid in
    let P : Parts g.row.V.Denot → Type 0 = λ x. IfOk c.child_marks.result (λ v. HasMarks (sees x) v.items) in
    subst P c.elements_in-elements.ensures.parts (IfOk-weaker c.child_marks.result _ _ (λ v are. marks_tell byte_width (machine p) (is_leftmost p.kind) (count p) 256 right v.items are) c.child_marks.ensures.ok)
