-- What is stored is valid, so that the patterns of its texts are the listing.
use Rattle.std.proofs.Common.{subst}
use Rattle.std.proofs.lemmas.Result.{IfOk-weaker}
use Rattle.daachorse_model.specs.Prefixes.{IsListing}
use Rattle.daachorse_bytewise_states.specs.Parts.{Parts, content}
use Rattle.daachorse_bytewise_states.proofs.ListingLaws.{valid_patterns, patterns_listing}
use Rattle.daachorse_bytewise_states.proofs.states.States.texts.Goals as goal

pub new-requires : goal.new-requires
new-requires g c = valid_patterns c.elements-elements.result c.elements-elements.ensures.valid c.elements-elements.ensures.few

pub returns-clause-ok : goal.returns-clause-ok
returns-clause-ok g c =
    IfOk-weaker c.new.result _ _
    (λ walk is.
    let P : Parts g.row.V.Denot → Type 0 = λ p. IsListing (content p) walk.left in
    subst P c.elements-elements.ensures.parts (patterns_listing c.elements-elements.result c.elements-elements.ensures.valid walk.left is))
    c.new.ensures.ok
