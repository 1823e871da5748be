-- Each end takes one pattern off those that are left.
use Rattle.std.proofs.Common.{◌<◌, ◌++◌, length, drop, refl, sym, ap, ◌∙◌, subst, inl, inr, arith}
use Rattle.std.proofs.lemmas.List.{append-nil, drop_all}
use Rattle.daachorse_model.specs.Dictionary.{registrations_of}
use Rattle.daachorse_c.specs.Patterns.{AreEnds, registrations}
use Rattle.daachorse_c.proofs.Registrations.{ends_next, ends_from_next, one_read}
use Rattle.daachorse_c.proofs.patterns.patterns_in.Goals as goal

pub loop-i-init : goal.loop-i-init
loop-i-init c = record {
  all = ap (λ l. registrations_of l ++ registrations c.args.bytes.now 0 c.args.ends.now c.args.values.now) (sym c.new-patterns.ensures.items);
  if_left = λ are. are;
  left = λ are. are;
}

pub returns-in_default-clause-err : goal.returns-in_default-clause-err
returns-in_default-clause-err c =
    let here : c.loop-i.i < length c.args.ends.now = omega (arith, c.loop-i-test.true) in
    inr (
      refl,
      λ are.
          let next = ends_next c.args.ends.now c.loop-i.start (length c.args.bytes.now) c.loop-i.i here (c.loop-i.invariant.left are.in_order) in
          elim c.in_default.ensures.lookup.0 [ inl before ↦ omega (arith, before, next.0) | inr behind ↦ omega (arith, behind, next.1) ],
    )

pub loop-i-preserved : goal.loop-i-preserved
loop-i-preserved c =
    let here : c.loop-i.i < length c.args.ends.now = omega (arith, c.loop-i-test.true) in
    let there : c.loop-i.i < length c.args.values.now = omega (arith, here, c.if-ends-values.false) in
    let part = c.in-Some.ensures.lookup.0 in
    record {
      all = c.loop-i.invariant.all ∙ one_read c.args.bytes.now c.args.ends.now c.args.values.now c.loop-i.start c.loop-i.i here there c.loop-i.patterns.items c.push.new.self.items c.in-Some.pattern part.2 c.in_ok-push.ensures.items;
      if_left = λ are. c.loop-i.invariant.if_left (ends_from_next c.args.ends.now c.loop-i.start (length c.args.bytes.now) c.loop-i.i here part.0 part.1 are);
      left = λ are. (ends_next c.args.ends.now c.loop-i.start (length c.args.bytes.now) c.loop-i.i here (c.loop-i.invariant.left are)).2;
    }

pub returns-clause-right : goal.returns-clause-right
returns-clause-right c =
    let ended = drop_all c.loop-i.i c.args.ends.now (omega (arith, c.loop-i-test.false)) in
    record { in_order = c.loop-i.invariant.if_left (subst (AreEnds c.loop-i.start (length c.args.bytes.now)) (sym ended) tt); one_each = c.if-ends-values.false }

pub returns-clause-all : goal.returns-clause-all
returns-clause-all c =
    let ended = drop_all c.loop-i.i c.args.ends.now (omega (arith, c.loop-i-test.false)) in
    sym (c.loop-i.invariant.all ∙ ap (λ es. registrations_of c.loop-i.patterns.items ++ registrations c.args.bytes.now c.loop-i.start es (drop c.loop-i.i c.args.values.now)) ended ∙ append-nil (registrations_of c.loop-i.patterns.items))
