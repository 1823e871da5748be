-- A pattern more is text, or none; in the end all are.
use Rattle.std.proofs.Common.{◌≡◌, ℕ, ◌+◌, List, take, refl, sym, ap, ◌∙◌, subst, inr, arith}
use Rattle.std.specs.Borrow.{Bor}
use Rattle.std.proofs.lemmas.List.{take_all}
use Rattle.daachorse_model.specs.Dictionary.{registrations_of}
use Rattle.daachorse.specs.charwise.Building.{registrations_of_strings}
use Rattle.daachorse_c.specs.declared.unit.Unit.TheVariants.{Character}
use Rattle.daachorse_c.specs.Patterns.{AreTexts}
use Rattle.daachorse_c.proofs.Texts.{spelled-next, text-at, texts-are, texts-next}
use Rattle.daachorse_c.proofs.patterns.texts_of.Goals as goal

pub loop-pattern-preserved : goal.loop-pattern-preserved
loop-pattern-preserved c =
    let patterns = c.args.patterns.now in let i = c.loop-pattern.pattern-index in let here = c.loop-pattern-test.true in
    record {
      texts = texts-next patterns i _ here c.loop-pattern.invariant.texts c.in-Ok.ensures.cases.1;
      all = subst (λ (texts : List (Bor (List ℕ) × ℕ)). registrations_of_strings texts ≡ registrations_of_strings (take (i + 1) patterns)) (sym c.in_ok-push-in-Ok.ensures.items)
          (spelled-next patterns i _ here c.loop-pattern.texts.items c.in-Ok.text c.loop-pattern.invariant.all c.in-Ok.ensures.cases.0);
    }

pub returns-in-Err-clause-err : goal.returns-in-Err-clause-err
returns-in-Err-clause-err c = inr (refl, λ are. c.in-Err.ensures.cases.0 (text-at c.args.patterns.now c.loop-pattern.pattern-index _ c.loop-pattern-test.true are))

pub returns-clause-text : goal.returns-clause-text
returns-clause-text c = subst (λ l. AreTexts Character (registrations_of l)) (take_all c.loop-pattern.pattern-index c.args.patterns.now (omega (arith, c.loop-pattern-test.false))) c.loop-pattern.invariant.texts

pub returns-clause-all : goal.returns-clause-all
returns-clause-all c =
    c.loop-pattern.invariant.all ∙ ap registrations_of_strings (take_all c.loop-pattern.pattern-index c.args.patterns.now (omega (arith, c.loop-pattern-test.false))) ∙ texts-are c.args.patterns.now
