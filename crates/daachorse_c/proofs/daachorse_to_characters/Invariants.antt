-- The matches so far are moved, and the text stays.
use Rattle.std.proofs.Common.{◌≡◌, map}
use Rattle.daachorse_c.specs.Characters.{in_characters}
use Rattle.daachorse_patterns.proofs.FoldingLaws.{partly}
use Rattle.daachorse_c.proofs.daachorse_to_characters.Given as goal

abbrev pub invariant-loop-found : goal.invariant-loop-found
invariant-loop-found l = (map (λ m. m) l.matches ≡ partly (in_characters l.fn.text l.fn.bytes l.fn.characters l.fn.origin) l.found-index (map (λ m. m) l.initial.matches)) × (l.cursor ≡ l.fn.text)
