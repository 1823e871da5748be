-- The states of the beginning that was read are there, and have ids.
use Rattle.std.proofs.Common.{◌≤◌, take, vec_len}
use Rattle.daachorse_build.specs.Growth.{IsAdding}
use Rattle.daachorse_build.proofs.nfa_builder.adding.add_pattern.Given as goal

-- the beginning that was read is there, and ends at `id`; the states fit if they did
abbrev pub invariant-loop-label : goal.invariant-loop-label
invariant-loop-label g l =
    IsAdding g.L.Ord.cmp l.fn.states.items l.states.items (take l.label-index l.pattern) l.id × (vec_len l.fn.states ≤ 4294967296 → vec_len l.states ≤ 4294967296)
