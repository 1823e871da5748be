-- The characters so far are counted, on top of the counts that there were at first.
use Rattle.daachorse.specs.charwise.Frequencies.{HasCounted}
use Rattle.daachorse.proofs.charwise.frequencies.count_chars.Given as goal

abbrev pub invariant-loop-c : goal.invariant-loop-c
invariant-loop-c g l = HasCounted l.initial.freqs.items l.yielded l.freqs.items
