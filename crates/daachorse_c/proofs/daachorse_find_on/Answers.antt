-- A call with an empty handle is refused.
use Rattle.std.proofs.Common.{IsNone, refl, rules, sym, subst, inl, inr}
use Rattle.daachorse_c.specs.declared.refusal.Refusal.TheVariants.{EmptyHandle}
use Rattle.daachorse_c.proofs.daachorse_find_on.Goals as goal

pub returns-in_default : goal.returns-in_default
returns-in_default c = record {
  kept = search rules;
  found = search rules;
  refused = inr (EmptyHandle, c.number.ensures.is, inl (refl, subst IsNone (sym c.in_default.ensures.taken) refl));
  unwritten = search rules;
}
