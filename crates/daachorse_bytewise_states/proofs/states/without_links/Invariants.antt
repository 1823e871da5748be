-- The list has the elements so far, each without its link.
use Rattle.std.proofs.Common.{◌≡◌, map, take}
use Rattle.daachorse_bytewise_states.specs.Parts.{without_link}
use Rattle.daachorse_bytewise_states.proofs.states.without_links.Given as goal

abbrev pub invariant-loop-state : goal.invariant-loop-state
invariant-loop-state g l = l.rest.items ≡ map without_link (take l.state-index l.states)
