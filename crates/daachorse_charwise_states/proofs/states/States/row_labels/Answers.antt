-- The elements have the parts, with the characters of the codes.
use Rattle.std.proofs.Common.{subst, sym}
use Rattle.std.specs.Prelude.{IfOk}
use Rattle.daachorse_rows.specs.Rows.{AreLabels}
use Rattle.daachorse_charwise_states.specs.Parts.{Parts, content}
use Rattle.daachorse_charwise_states.specs.StateRows.{stands_for}
use Rattle.daachorse_charwise_states.specs.Valid.{IsValid}
use Rattle.daachorse_charwise_states.proofs.LabelListLaws.{labels_of}
use Rattle.daachorse_charwise_states.proofs.states.States.row_labels.Goals as goal

pub returns-clause-all : goal.returns-clause-all
returns-clause-all g c =
    let P : Parts g.row.V.Denot → Type 0 = λ p. IfOk c.list_used.result (λ v. AreLabels (content p) (stands_for p) v.items) in
    let Q : Parts g.row.V.Denot → Type 0 = IsValid in
    let valid : IsValid c.args.self.now = rw (← c.self.view_is) c.self.invariant in
    subst P c.in_ok-elements.ensures.parts (labels_of c.in_ok-elements.elements c.list_used.result (subst Q (sym c.in_ok-elements.ensures.parts) valid) c.in_ok-elements.ensures.lettered c.list_used.ensures.ok)
