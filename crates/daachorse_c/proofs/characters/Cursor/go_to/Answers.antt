-- The count goes up by the characters that begin between the two places, or down by them.
use Rattle.std.proofs.Common.{◌≡◌, ap, ◌∙◌, arith}
use Rattle.std.proofs.lemmas.List.{take_min}
use Rattle.daachorse_c.specs.Characters.{begins_character, characters_before}
use Rattle.daachorse_c.proofs.CharacterLaws.{characters-between}
use Rattle.std.specs.Prelude.{ℕ, List, min, length, count_by}
use Rattle.daachorse_c.proofs.characters.Cursor.go_to.Goals.{then-self-place, else-self-place}
use Rattle.daachorse_c.proofs.characters.Cursor.go_to.Goals as goal

pub overflow_sub-count : goal.overflow_sub-count
overflow_sub-count c =
    omega (arith, c.if-self-place.false, characters-between c.self.inside.text.now c.min-place.result c.self.inside.place (omega (arith, c.if-self-place.false)), c.self.invariant.0, c.count_characters-else-self-place.ensures)

pub invariant_of-self : goal.invariant_of-self
invariant_of-self c = (
  elim c.if-self-place.branch [
    | then-self-place w ↦ omega (arith, characters-between c.self.inside.text.now c.self.inside.place c.min-place.result w.if-self-place.true, c.self.invariant.0, w.count-is, w.count_characters.ensures)
    | else-self-place w ↦ omega (arith, characters-between c.self.inside.text.now c.min-place.result c.self.inside.place (omega (arith, w.if-self-place.false)), c.self.invariant.0, w.count-is, w.count_characters-else-self-place.ensures)
  ],
  omega (arith, c.min-place.ensures),
)

at_place : (text : List ℕ) (count place least : ℕ) → count ≡ characters_before text least → least ≡ min place (length text) → count ≡ characters_before text place
at_place text count place least counted is = counted ∙ (ap (characters_before text) is ∙ ap (count_by begins_character) (take_min place text))

pub returns-clause-count : goal.returns-clause-count
returns-clause-count c = at_place c.args.self.now c.if-self-place.count c.args.place c.min-place.result ((invariant_of-self c).0 ∙ ap (λ t. characters_before t c.min-place.result) c.self.view_is) (c.min-place.ensures ∙ ap (λ t. min c.args.place (length t)) c.self.view_is)
