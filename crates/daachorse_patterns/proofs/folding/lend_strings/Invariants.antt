-- The copies so far are lent.
use Rattle.std.proofs.Common.{◌≡◌, take}
use Rattle.std.specs.Str.{chars}
use Rattle.std.specs.String.{string_bytes}
use Rattle.daachorse_patterns.specs.Patterns.{texts_of}
use Rattle.daachorse_patterns.proofs.folding.lend_strings.Given as goal

abbrev pub invariant-loop-copy : goal.invariant-loop-copy
invariant-loop-copy g l = texts_of (λ p. chars p.now) l.lent.items ≡ texts_of (λ c. chars (string_bytes c)) (take l.copy-index l.copies)
