-- The lines so far were taken, and after these come those that are left.
use Rattle.std.proofs.Common.{◌≡◌, ◌++◌, map}
use Rattle.daachorse_model.specs.Program.{pattern_lines}
use Rattle.daacgrep_command.proofs.patterns.lines.Given as goal

abbrev pub invariant-loop-line : goal.invariant-loop-line
invariant-loop-line l = map (λ b. b.now) l.lines.items ++ map (λ t. t.bytes) l.line-iterator ≡ pattern_lines l.fn.text
