-- An ASCII character is its byte, and any other one is read as it is.
use Rattle.std.proofs.Common.{◌≡◌, ◌+◌, ◌-◌, ℕ, Bool, true, false, List, [], ◌∷◌, drop, length, Some, inl, inr, refl, sym, ap, ◌∙◌, subst, arith}
use Rattle.std.proofs.lemmas.List.{drop_all}
use Rattle.std.proofs.lemmas.Str.{chars-nil, IsCharBoundary-from_drop}
use Rattle.std.proofs.Math.ListN.{get_or}
use Rattle.std.specs.Iterator.{YieldsFirst}
use Rattle.std.specs.Str.{chars}
use Rattle.daachorse_model.specs.Folding.{as_read}
use Rattle.daachorse_haystack.proofs.HaystackLaws.{progress_of_first}
use Rattle.daachorse_haystack.proofs.TextLaws.{IsByteAsRead, IsPast, ascii-byte, past_ascii-byte, past_ascii, begins_past, first_as_read, past_as_read, past_steps}
use Rattle.daachorse_haystack.proofs.text.TextIterator.next.Goals as goal
use Rattle.daachorse_haystack.proofs.text.TextIterator.next.Goals.{then-self-2, else-self-2}

none_as_read : (folds : Bool) → as_read folds [] ≡ []
none_as_read true = refl
none_as_read false = refl

-- no bytes are left
pub returns-then-self-clause-steps : goal.returns-then-self-clause-steps
returns-then-self-clause-steps c =
    let was = c.self.inside in
    let none : c.args.self.now ≡ [] =
    sym c.self.view_is ∙ ap (λ w. as_read was.folds (chars w)) (drop_all was.given was.text.now (omega (arith, c.if-self.true))) ∙ ap (as_read was.folds) chars-nil ∙ none_as_read was.folds in
    (none, none)

-- the text behind its first character, which is ASCII
behind : (c : goal.After-from) → IsPast c.self.inside.text.now c.self.inside.given (get_or c.as_bytes.result.now c.self.inside.given 0) (c.self.inside.given + 1)
behind c =
    let was = c.self.inside in let byte : ℕ = get_or c.as_bytes.result.now was.given 0 in
    let is : IsByteAsRead was.folds byte c.if-self-2.first = elim c.if-self-2.branch [ then-self-2 w ↦ inl (w.if-self-2.true, w.first-is ∙ w.folded-first.ensures) | else-self-2 w ↦ inr (w.if-self-2.false, w.first-is) ] in
    past_ascii was.text.now was.given byte (omega (arith, c.self.invariant.0, c.if-self.false)) c.self.invariant.1 (ap (λ w. get_or w was.given 0) c.as_bytes.ensures.value) (ascii-byte was.folds byte c.if-self-2.first is c.if-first-lt128.true)

pub invariant_of-self : goal.invariant_of-self
invariant_of-self c = let past = behind c in (past.inside, past.utf8)

pub returns-then-first-lt128-clause-steps : goal.returns-then-first-lt128-clause-steps
returns-then-first-lt128-clause-steps c =
    let was = c.self.inside in let byte : ℕ = get_or c.as_bytes.result.now was.given 0 in let rest = chars (drop (was.given + 1) was.text.now) in
    let is : IsByteAsRead was.folds byte c.if-self-2.first = elim c.if-self-2.branch [ then-self-2 w ↦ inl (w.if-self-2.true, w.first-is ∙ w.folded-first.ensures) | else-self-2 w ↦ inr (w.if-self-2.false, w.first-is) ] in
    sym c.self.view_is ∙ ap (as_read was.folds) (behind c).first ∙ first_as_read was.folds byte c.if-self-2.first rest is ∙ ap (λ b. b ∷ as_read was.folds rest) (sym c.from.ensures)

pub returns-then-first-lt128-clause-goes : goal.returns-then-first-lt128-clause-goes
returns-then-first-lt128-clause-goes c = progress_of_first (λ (s : List ℕ). s) _ c.args.self.now (Some c.from.result) _ (λ _. tt) (returns-then-first-lt128-clause-steps c)

pub range_from-requires : goal.range_from-requires
range_from-requires c = λ some. IsCharBoundary-from_drop c.self.inside.text.now c.self.inside.given c.self.invariant.0 c.self.invariant.1

pub invariant_of-self-2 : goal.invariant_of-self-2
invariant_of-self-2 c =
    let past = past_steps c.self.inside.text.now (chars (drop c.self.inside.given c.self.inside.text.now)) c.self.inside.given c.chars-rest.result c.next-character.new.self c.next-character.result c.as_str.result.now c.self.invariant.0 c.self.invariant.1 refl
    (c.chars-rest.ensures.rest ∙ c.range_from.ensures.value) c.next-character.ensures.steps c.as_str.ensures in
    (past.0, past.1)

pub returns-clause-steps : goal.returns-clause-steps
returns-clause-steps c =
    let was = c.self.inside in let byte : ℕ = get_or c.as_bytes.result.now was.given 0 in let seen = chars (drop was.given was.text.now) in
    let is : IsByteAsRead was.folds byte c.if-self-2.first = elim c.if-self-2.branch [ then-self-2 w ↦ inl (w.if-self-2.true, w.first-is ∙ w.folded-first.ensures) | else-self-2 w ↦ inr (w.if-self-2.false, w.first-is) ] in
    let past = past_steps was.text.now seen was.given c.chars-rest.result c.next-character.new.self c.next-character.result c.as_str.result.now c.self.invariant.0 c.self.invariant.1 refl
    (c.chars-rest.ensures.rest ∙ c.range_from.ensures.value) c.next-character.ensures.steps c.as_str.ensures in
    let begins = begins_past was.text.now was.given byte (omega (arith, c.self.invariant.0, c.if-self.false)) c.self.invariant.1 (ap (λ w. get_or w was.given 0) c.as_bytes.ensures.value) (past_ascii-byte was.folds byte c.if-self-2.first is c.if-first-lt128.false) in
    let left = chars (drop (length was.text.now - length c.as_str.result.now) was.text.now) in
    let P : List ℕ → Type 0 = λ w. YieldsFirst (λ (s : List ℕ). s) w c.next-character.result (as_read was.folds left) in
    subst P c.self.view_is (past_as_read was.folds seen c.next-character.result left begins past.2)

pub returns-clause-goes : goal.returns-clause-goes
returns-clause-goes c = progress_of_first (λ (s : List ℕ). s) _ c.args.self.now c.next-character.result _ (λ _. tt) (returns-clause-steps c)
