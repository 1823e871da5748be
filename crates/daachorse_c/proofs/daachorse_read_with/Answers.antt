-- A read over an unknown unit is refused.
use Rattle.std.proofs.Common.{refl, inl, inr}
use Rattle.daachorse_c.specs.declared.refusal.Refusal.TheVariants.{UnknownOption}
use Rattle.daachorse_c.proofs.daachorse_read_with.Goals as goal

pub returns-then-unit-gt1-clause-refused : goal.returns-then-unit-gt1-clause-refused
returns-then-unit-gt1-clause-refused c = inr (UnknownOption, c.number.ensures.is, inl (refl, c.if-unit-gt1.true))
