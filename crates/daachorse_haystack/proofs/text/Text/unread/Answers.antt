-- What is still to come is UTF-8, so it begins at a boundary of the string's characters.
use Rattle.std.proofs.lemmas.Str.{IsCharBoundary-from_drop}
use Rattle.daachorse_haystack.proofs.text.Text.unread.Goals as goal

pub range_from-requires : goal.range_from-requires
range_from-requires c = λ some. IsCharBoundary-from_drop c.self.inside.text.now c.self.inside.given c.self.invariant.0 c.self.invariant.1
