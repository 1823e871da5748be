-- A call with an empty handle is refused.
use Rattle.std.proofs.Common.{IsNone, refl, sym, subst, inl, inr}
use Rattle.daachorse_c.specs.declared.refusal.Refusal.TheVariants.{EmptyHandle}
use Rattle.daachorse_c.proofs.daachorse_is_match.Goals as goal

pub returns-in_default-clause-refused : goal.returns-in_default-clause-refused
returns-in_default-clause-refused c = inr (EmptyHandle, c.number.ensures.is, inl (refl, subst IsNone (sym c.in_default.ensures.taken) refl))
