-- What is kept is valid, so that the patterns of its texts are the listing.
use Rattle.std.proofs.Common.{subst}
use Rattle.std.proofs.lemmas.Result.{IfOk-weaker}
use Rattle.daachorse_model.specs.Prefixes.{IsListing}
use Rattle.daachorse_charwise_states.specs.Parts.{Parts, content}
use Rattle.daachorse_charwise_states.proofs.ListingLaws.{valid_patterns, patterns_listing}
use Rattle.daachorse_charwise_states.proofs.states.States.texts.Goals as goal

pub new-requires : goal.new-requires
new-requires g c =
    let is = c.in_ok-elements.ensures in
    valid_patterns c.in_ok-elements.elements is.valid is.lettered.letters is.few

pub returns-clause-ok : goal.returns-clause-ok
returns-clause-ok g c =
    let a = c.in_ok-elements.elements in
    let is = c.in_ok-elements.ensures in
    IfOk-weaker c.new.result _ _
    (λ walk lists.
    let L : Parts g.row.V.Denot → Type 0 = λ p. IsListing (content p) walk.left in
    subst L is.parts (patterns_listing a is.valid walk.left lists))
    c.new.ensures.ok
