-- The states of the order so far have their lists.
use Rattle.std.proofs.Common.{◌≡◌, ◌≤◌, Bool, ◌+◌, ◌∷◌, length, take}
use Rattle.daachorse_core.specs.Outputs.{ParentsFall}
use Rattle.daachorse_build.specs.Tables.{fails_of, own_of, positions_of, output_count, stops_of}
use Rattle.daachorse_build.specs.Orders.{HoldLeftLinks}
use Rattle.daachorse_build.specs.Growth.{HasTrieOf}
use Rattle.daachorse_build.specs.Lists.{AreListed, AreChained, PositionsFit}
use Rattle.daachorse_build.proofs.Cleared.{cleared}
use Rattle.daachorse_build.proofs.nfa_builder.outputs.put_lists.Given as goal

-- the states of the order so far have their lists, and the outputs number their own ones
abbrev pub invariant-loop-id : goal.invariant-loop-id
invariant-loop-id g l = record {
  kept : HasTrieOf l.fn.states l.states;
  fails : fails_of l.states ≡ fails_of l.fn.states;
  parents : ParentsFall l.outputs.items;
  fits : PositionsFit (take l.id-index l.order) l.outputs.items (positions_of l.states);
  lists : (leftmost : Bool) → HoldLeftLinks g.L.Ord.cmp leftmost l.fn.states l.order → AreListed g.L.Ord.cmp (stops_of leftmost l.fn.states) l.fn.states (take l.id-index l.order) l.outputs.items (positions_of l.states);
  chained : (leftmost : Bool) → HoldLeftLinks g.L.Ord.cmp leftmost l.fn.states l.order → AreChained (own_of l.fn.states) (fails_of l.fn.states) (take l.id-index l.order) l.outputs.items (positions_of l.states);
  few : length l.outputs.items ≤ 4294967295;
  count : length l.outputs.items + output_count (cleared (own_of l.fn.states) (0 ∷ take l.id-index l.order)) ≡ output_count (own_of l.fn.states);
}
