-- The place behind the character fits, since the source is ready; and a character of more than one byte is folded to itself.
use Rattle.std.proofs.Common.{◌≡◌, ℕ, ◌<◌, ◌≤◌, ◌⊎◌, Bool, true, false, inl, inr, Some, refl, sym, ap, arith}
use Rattle.std.proofs.lemmas.Bool.{cases_lt, lt-ltb, false≢true}
use Rattle.daachorse_core.specs.CharForms.{char_wide}
use Rattle.daachorse_model.specs.Folding.{folded_unit}
use Rattle.daachorse_model.specs.Units.{char_width}
use Rattle.daachorse_model.proofs.FoldLaws.{char_width-folded, folded_unit-past_ascii}
use Rattle.daachorse_haystack.specs.Readings.{item_as_read}
use Rattle.daachorse_haystack.proofs.Places.{place-fits}
use Rattle.daachorse_haystack.proofs.decoding.DecodedSourceChar.next_at.Goals as goal
use Rattle.daachorse_haystack.proofs.decoding.DecodedSourceChar.next_at.Goals.{else-folds-via-then-folds+else-bytes-eq1, else-folds-via-else-folds}

folded_unit-wide : (u : ℕ) → 1 < char_width u → folded_unit u ≡ u
folded_unit-wide u wide = by (cases_lt u 128)
  where
    by : (u < 128) ⊎ (128 ≤ u) → folded_unit u ≡ u
    by (inl low) = (let one : char_width u ≡ 1 = rw (lt-ltb u 128 low) refl in omega (arith, one, wide))
    by (inr high) = folded_unit-past_ascii u high

-- a character of more than one byte is read as it is
read_wide : (folds : Bool) (u : ℕ) → 1 < char_width u → u ≡ item_as_read folds folded_unit u
read_wide true u wide = sym (folded_unit-wide u wide)
read_wide false u wide = refl

read_as_it_is : (folds : Bool) (u : ℕ) → folds ≡ false → u ≡ item_as_read folds folded_unit u
read_as_it_is true u is = absurd (false≢true (sym is))
read_as_it_is false u is = refl

pub overflow_add-place : goal.overflow_add-place
overflow_add-place g c =
    let P = g.P.Iterator in let taken = c.in_ok-character.ensures in
    omega (arith, place-fits P.can_next P.next_gives P.remaining c.args.self.now c.in_ok-character.character c.take_character.new.self c.args.place.now c.in_ok-character.bytes c.requires.ready taken.steps taken.goes taken.bytes)

pub returns-then-bytes-eq1-clause-place : goal.returns-then-bytes-eq1-clause-place
returns-then-bytes-eq1-clause-place g c = omega (arith, c.in_ok-character.ensures.bytes, char_width-folded c.in_ok-character.character, ap char_width c.folded.ensures)

pub returns-clause-steps : goal.returns-clause-steps
returns-clause-steps g c =
    let character = c.in_ok-character.character in (
      Some character,
      c.in_ok-character.ensures.steps,
      ap Some (elim c.else-folds.branch [
        | else-folds-via-then-folds+else-bytes-eq1 w ↦ read_wide c.args.folds character (omega (arith, w.if-bytes-eq1.false, c.in_ok-character.ensures.bytes, char_wide character))
        | else-folds-via-else-folds w ↦ read_as_it_is c.args.folds character w.if-folds.false
      ]),
    )
