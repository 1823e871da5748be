-- The labels below this one that some character with a code has are listed, and no others.
use Rattle.daachorse_rows.specs.Rows.{IsListOf}
use Rattle.daachorse_charwise_states.specs.StateRows.{IsUsed}
use Rattle.daachorse_charwise_states.proofs.state_rows.list_used.Given as goal

abbrev pub invariant-loop-label : goal.invariant-loop-label
invariant-loop-label g l = IsListOf (IsUsed l.elements) l.label l.labels.items
