-- The children that were passed are on the stack.
use Rattle.std.proofs.Common.{◌≡◌, ℕ, ◌++◌, map}
use Rattle.std.specs.Map.Iter.{deref}
use Rattle.daachorse_build.proofs.nfa_builder.siblings.put_children.Given as goal

abbrev pub invariant-loop-id : goal.invariant-loop-id
invariant-loop-id g l = l.stack.items ≡ l.fn.stack.items ++ map (deref {X = ℕ}) l.yielded
