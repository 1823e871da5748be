-- Text has no place inside a character.
use Rattle.std.proofs.Common.{subst}
use Rattle.std.proofs.lemmas.Str.{IsCharBoundary-end, IsCharBoundary-from_drop}
use Rattle.daachorse_c.specs.Held.{haystack_of, searched}
use Rattle.daachorse_c.specs.Places.{IsPlaceIn}
use Rattle.daachorse_c.proofs.searching.Search.part.Goals as goal

pub returns-in-None-get : goal.returns-in-None-get
returns-in-None-get c place =
    let p = subst (λ s. IsPlaceIn (searched s) (haystack_of s) c.args.from) c.in-Characters.is place in
    let at = IsCharBoundary-from_drop c.in-Characters.text.now c.args.from p.within p.reads in
    c.in-None-get.ensures.cases at.0 at (IsCharBoundary-end c.in-Characters.text.now)
