-- A build with an unknown option is refused.
use Rattle.std.proofs.Common.{refl, sym, ◌∙◌, inl, inr}
use Rattle.std.proofs.lemmas.Bool.{false≢true}
use Rattle.daachorse_c.specs.declared.refusal.Refusal.TheVariants.{UnknownOption}
use Rattle.daachorse_c.proofs.daachorse_build_with.Goals as goal

pub returns-then-not-are_known-clause-refused : goal.returns-then-not-are_known-clause-refused
returns-then-not-are_known-clause-refused c =
    inr (UnknownOption, c.number.ensures.is, inl (refl, λ known. false≢true (sym c.if-not-are_known.true ∙ c.are_known.ensures.1 known)))
