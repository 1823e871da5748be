-- The copies so far are lent.
use Rattle.std.proofs.Common.{◌≡◌, take}
use Rattle.daachorse_patterns.specs.Patterns.{texts_of}
use Rattle.daachorse_patterns.proofs.folding.lend_bytes.Given as goal

abbrev pub invariant-loop-copy : goal.invariant-loop-copy
invariant-loop-copy g l = texts_of (λ p. p.now) l.lent.items ≡ texts_of (λ c. c.items) (take l.copy-index l.copies)
