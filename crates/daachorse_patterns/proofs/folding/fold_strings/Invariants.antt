-- The patterns so far are copied and folded.
use Rattle.std.proofs.Common.{◌≡◌, take}
use Rattle.std.specs.Str.{chars}
use Rattle.std.specs.String.{string_bytes}
use Rattle.daachorse_model.specs.Folding.{folded}
use Rattle.daachorse_patterns.specs.Patterns.{texts_of}
use Rattle.daachorse_patterns.proofs.folding.fold_strings.Given as goal

abbrev pub invariant-loop-pattern : goal.invariant-loop-pattern
invariant-loop-pattern g l = texts_of (λ c. chars (string_bytes c)) l.copies.items ≡ texts_of (λ p. folded (chars p.now)) (take l.pattern-index l.patterns)
