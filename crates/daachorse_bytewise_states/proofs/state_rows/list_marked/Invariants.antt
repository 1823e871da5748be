-- The marked bytes below this one are listed, and no others.
use Rattle.daachorse_rows.specs.Rows.{IsListOf}
use Rattle.daachorse_bytewise_states.specs.EdgeBytes.{IsMarked}
use Rattle.daachorse_bytewise_states.proofs.state_rows.list_marked.Given as goal

abbrev pub invariant-loop-byte : goal.invariant-loop-byte
invariant-loop-byte g l = IsListOf (IsMarked l.marks.items) l.byte l.bytes.items
