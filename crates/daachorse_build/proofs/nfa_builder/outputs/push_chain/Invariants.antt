-- The outputs are pushed from the last to the first, each in front of the list so far.
use Rattle.std.proofs.Common.{◌≡◌, ◌≤◌, ◌+◌, List, ◌++◌, length, drop}
use Rattle.daachorse_core.specs.declared.outputs.Output.{Output}
use Rattle.daachorse_core.specs.Outputs.{ParentsFall, outputs_at}
use Rattle.daachorse_core.specs.Chains.{Passes}
use Rattle.daachorse_build.specs.Few.{items_of}
use Rattle.daachorse_build.proofs.nfa_builder.outputs.push_chain.Given as goal

-- the outputs from `i` on are in front of the list
abbrev pub invariant-loop-i : goal.invariant-loop-i
invariant-loop-i g l = record {
  in_range : l.i ≤ length (items_of l.own);
  longer : (more : List (Output g.row.V.Denot)) × (l.outputs.items ≡ l.fn.outputs.items ++ more);
  parents : ParentsFall l.outputs.items;
  fits : l.last ≤ length l.outputs.items;
  few : length l.fn.outputs.items ≤ 4294967295 → length l.outputs.items ≤ 4294967295;
  count : length l.outputs.items + l.i ≡ length l.fn.outputs.items + length (items_of l.own);
  passes : Passes l.outputs.items l.last (drop l.i (items_of l.own)) l.parent;
  list : outputs_at l.outputs.items l.last ≡ drop l.i (items_of l.own) ++ outputs_at l.fn.outputs.items l.parent;
}

abbrev pub decreases-loop-i : goal.decreases-loop-i
decreases-loop-i g l = l.i
