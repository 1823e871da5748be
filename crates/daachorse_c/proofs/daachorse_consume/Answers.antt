-- A call with an empty handle is refused.
use Rattle.std.proofs.Common.{IsNone, refl, rules, sym, subst, inl, inr}
use Rattle.daachorse_c.specs.declared.refusal.Refusal.TheVariants.{EmptyHandle}
use Rattle.daachorse_c.proofs.daachorse_consume.Goals as goal

pub returns-in_default : goal.returns-in_default
returns-in_default c = record {
  reported = search rules;
  refused = inr (EmptyHandle, c.number.ensures.is, inl (refl, subst IsNone (sym c.in_default.ensures.taken) refl));
  unchanged = search rules;
}

pub returns-in-Ok : goal.returns-in-Ok
returns-in-Ok c = record { reported = λ _. rw (c.in-Some.ensures.taken, c.put.ensures, ← c.deref_mut.ensures.value) c.in-Ok.ensures.consumed; refused = inl refl; unchanged = λ no. absurd (no refl) }
