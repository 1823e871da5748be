-- The patterns of the lines so far were taken.
use Rattle.std.proofs.Common.{◌≡◌, map, take}
use Rattle.daacgrep_command.specs.Rules.{pattern_of}
use Rattle.daacgrep_command.proofs.automaton.patterns.Given as goal

abbrev pub invariant-loop-rule : goal.invariant-loop-rule
invariant-loop-rule l = map (λ p. p.now) l.patterns.items ≡ map (pattern_of l.fn.have_values) (map (λ r. r.now) (take l.rule-index l.rules))
