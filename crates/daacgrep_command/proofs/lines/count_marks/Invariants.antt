-- The marks so far were counted.
use Rattle.std.proofs.Common.{◌≡◌, ◌==◌, count_by, take}
use Rattle.daacgrep_command.proofs.lines.count_marks.Given as goal

abbrev pub invariant-loop-byte : goal.invariant-loop-byte
invariant-loop-byte l = l.count ≡ count_by (λ b. b == l.fn.mark) (take l.byte-index l.fn.text)
