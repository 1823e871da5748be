-- Valid parts have an edge by each byte that some pattern has.
use Rattle.std.proofs.Common.{◌≡◌, subst}
use Rattle.std.proofs.lemmas.Result.{IfOk-weaker}
use Rattle.daachorse_rows.specs.Rows.{AreLabels}
use Rattle.daachorse_bytewise_states.specs.Parts.{Parts, content}
use Rattle.daachorse_bytewise_states.proofs.EdgeByteLaws.{listed_labels}
use Rattle.daachorse_bytewise_states.proofs.states.States.edge_bytes.Goals as goal

pub returns-clause-all : goal.returns-clause-all
returns-clause-all g c =
    IfOk-weaker c.list_marked.result _ _
    (λ bytes listed.
    let P : Parts g.row.V.Denot → Type 0 = λ p. AreLabels (content p) (λ label unit. label ≡ unit) bytes.items in
    subst P c.elements-elements.ensures.parts (listed_labels c.elements-elements.result c.in_ok-bases.bases.items c.in_ok-edges.edges.items bytes.items c.elements-elements.ensures.valid c.in_ok-bases.ensures c.in_ok-edges.ensures listed))
    c.list_marked.ensures
