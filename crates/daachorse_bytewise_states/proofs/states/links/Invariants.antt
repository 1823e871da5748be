-- The list has the links of the elements so far, in order.
use Rattle.std.proofs.Common.{◌≡◌, map, take}
use Rattle.daachorse_bytewise_states.specs.Elements.{fail_in}
use Rattle.daachorse_bytewise_states.proofs.states.links.Given as goal

abbrev pub invariant-loop-state : goal.invariant-loop-state
invariant-loop-state g l = l.fails.items ≡ map fail_in (take l.state-index l.states)
