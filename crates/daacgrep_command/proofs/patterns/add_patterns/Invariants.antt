-- The patterns so far were added.
use Rattle.std.proofs.Common.{◌≡◌, [], ◌∷◌, ◌++◌, flat_map, map, take}
use Rattle.daacgrep_command.proofs.patterns.add_patterns.Given as goal

abbrev pub invariant-loop-pattern : goal.invariant-loop-pattern
invariant-loop-pattern l = l.text.items ≡ l.fn.text.items ++ flat_map (λ p. p ++ 10 ∷ []) (map (λ p. p.now) (take l.pattern-index l.patterns))
