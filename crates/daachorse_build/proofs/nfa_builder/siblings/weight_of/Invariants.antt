-- The visits of the children that were passed are counted.
use Rattle.std.proofs.Common.{◌≡◌, ℕ, ◌+◌, ◌-◌, ◌^◌, min, map, get_or, sum_by}
use Rattle.std.specs.Map.Iter.{deref}
use Rattle.daachorse_build.proofs.nfa_builder.siblings.weight_of.Given as goal

abbrev pub invariant-loop-id : goal.invariant-loop-id
invariant-loop-id g l =
    l.weight ≡ min (get_or l.profile.probes.items l.parent 0 + sum_by (λ t. get_or l.profile.visits.items t 0) (map (deref {X = ℕ}) l.yielded)) (2 ^ 64 - 1)
