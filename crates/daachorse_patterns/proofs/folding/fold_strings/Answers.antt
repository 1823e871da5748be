-- A pattern more is copied and folded; in the end all are.
use Rattle.std.proofs.Common.{◌≡◌, ℕ, ◌+◌, List, take, sym, ap, ◌∙◌, subst, arith, Bor, String}
use Rattle.std.specs.Str.{chars}
use Rattle.std.specs.String.{string_bytes}
use Rattle.std.proofs.lemmas.List.{take_all}
use Rattle.std.proofs.lemmas.Str.{IsUtf8-string_bytes}
use Rattle.daachorse_model.specs.Folding.{folded, folded_unit}
use Rattle.daachorse_model.proofs.FoldLaws.{chars-folded}
use Rattle.daachorse_patterns.specs.Patterns.{texts_of}
use Rattle.daachorse_patterns.proofs.FoldingLaws.{copied_more, folded_texts-of}
use Rattle.daachorse_patterns.proofs.folding.fold_strings.Goals as goal

pub loop-pattern-preserved : goal.loop-pattern-preserved
unfolding folded_unit
loop-pattern-preserved g c =
    let V : Type 0 = g.row.V.Denot in let A : Type 0 = g.row.A.Denot in
    let patterns = c.args.patterns.now in let i = c.loop-pattern.pattern-index in
    let pair : Bor (List ℕ) × V = c.loop-pattern-item.result in
    let text : String A → List ℕ = λ s. chars (string_bytes s) in
    let units : Bor (List ℕ) → List ℕ = λ p. folded (chars p.now) in
    let P : List (String A × V) → Type 0 = λ copies. texts_of text copies ≡ texts_of units (take (i + 1) patterns) in
    let copy : String A = c.in_ok-copy.copy in
    let characters = ap chars c.make_ascii_lowercase.ensures.bytes ∙ chars-folded (string_bytes copy) (IsUtf8-string_bytes copy) ∙ ap (λ w. folded (chars w)) c.in_ok-copy.ensures.ok in
    subst P (sym c.in_ok-push.ensures.items) (copied_more text units c.loop-pattern.copies.items patterns i c.make_ascii_lowercase.new.self pair c.loop-pattern.invariant c.loop-pattern-test.true c.loop-pattern-item.is characters)

pub returns-clause-ok : goal.returns-clause-ok
returns-clause-ok g c =
    let patterns = c.args.patterns.now in let i = c.loop-pattern.pattern-index in
    let units : Bor (List ℕ) → List ℕ = λ p. chars p.now in
    let kept : Bor (List ℕ) → List ℕ = λ p. folded (chars p.now) in
    c.loop-pattern.invariant ∙ ap (texts_of kept) (take_all i patterns (omega (arith, c.loop-pattern-test.false))) ∙ sym (folded_texts-of units patterns)
