-- The states are those that contracts see.
use Rattle.std.proofs.Common.{◌≡◌, List, sym, ap, ◌∙◌, subst}
use Rattle.daachorse_build.specs.declared.nfa_builder.NfaBuilderState.{NfaBuilderState}
use Rattle.daachorse_build.specs.Counts.{LinksLeadBack}
use Rattle.daachorse_build.proofs.nfa_builder.NfaBuilder.profile_haystack.Goals as goal

pub count_document-requires-clause-links : goal.count_document-requires-clause-links
count_document-requires-clause-links g c =
    let P : List (NfaBuilderState g.row.L.Denot g.row.V.Denot g.row.A.Denot) → Type 0 = λ states. LinksLeadBack g.L.Ord.cmp states in
    let lent : c.deref.result.now ≡ c.args.self.now.states = c.deref.ensures.value ∙ ap (λ b. b.states) c.self.view_is in
    subst P (sym lent) c.requires.links
