-- A pattern more is copied and folded; in the end all are.
use Rattle.std.proofs.Common.{◌≡◌, ℕ, ◌+◌, List, length, map, take, sym, ap, ◌∙◌, subst, arith, Bor, Vec}
use Rattle.std.specs.Char.{to_ascii_lowercase}
use Rattle.std.specs.Vec.{with_items}
use Rattle.std.proofs.lemmas.List.{length-map, take_all, with_items_is}
use Rattle.daachorse_model.specs.Folding.{folded, folded_unit}
use Rattle.daachorse_patterns.specs.Patterns.{texts_of}
use Rattle.daachorse_patterns.proofs.FoldingLaws.{copied_more, folded_texts-of}
use Rattle.daachorse_patterns.proofs.folding.fold_bytes.Goals as goal

pub loop-pattern-preserved : goal.loop-pattern-preserved
unfolding folded_unit
loop-pattern-preserved g c =
    let V : Type 0 = g.row.V.Denot in let A : Type 0 = g.row.A.Denot in
    let patterns = c.args.patterns.now in let i = c.loop-pattern.pattern-index in
    let pair : Bor (List ℕ) × V = c.loop-pattern-item.result in
    let text : Vec ℕ A → List ℕ = λ v. v.items in
    let units : Bor (List ℕ) → List ℕ = λ p. folded p.now in
    let P : List (Vec ℕ A × V) → Type 0 = λ copies. texts_of text copies ≡ texts_of units (take (i + 1) patterns) in
    let copy : Vec ℕ A = c.in_ok-copy.copy in let bytes = c.make_ascii_lowercase.new.self in
    let written = with_items_is copy bytes (ap length c.make_ascii_lowercase.ensures.after ∙ length-map c.as_mut_slice.result.now to_ascii_lowercase ∙ ap length c.as_mut_slice.ensures.value ∙ sym copy.ok.0) in
    let folds = written ∙ c.make_ascii_lowercase.ensures.after ∙ ap (map to_ascii_lowercase) (c.as_mut_slice.ensures.value ∙ c.in_ok-copy.ensures.items) in
    subst P (sym c.in_ok-push.ensures.items) (copied_more text units c.loop-pattern.copies.items patterns i (with_items copy bytes) pair c.loop-pattern.invariant c.loop-pattern-test.true c.loop-pattern-item.is folds)

pub returns-clause-ok : goal.returns-clause-ok
returns-clause-ok g c =
    let patterns = c.args.patterns.now in let i = c.loop-pattern.pattern-index in
    let units : Bor (List ℕ) → List ℕ = λ p. p.now in
    let kept : Bor (List ℕ) → List ℕ = λ p. folded p.now in
    c.loop-pattern.invariant ∙ ap (texts_of kept) (take_all i patterns (omega (arith, c.loop-pattern-test.false))) ∙ sym (folded_texts-of units patterns)
