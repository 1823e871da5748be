-- Characters before two places of a text differ by those that begin between them.
use Rattle.std.proofs.Common.{◌≡◌, ◌≤◌, ℕ, ◌+◌, ◌-◌, List, count_by, take, drop, slice_range, ap, ◌∙◌, arith}
use Rattle.std.proofs.Math.Seq.{take-add}
use Rattle.std.specs.Prelude.{cond}
use Rattle.std.proofs.lemmas.List.Sums.{sum_by-append}
use Rattle.daachorse_c.specs.Characters.{begins_character, characters_before}

pub characters-between : (text : List ℕ) (a b : ℕ) → a ≤ b → characters_before text b ≡ characters_before text a + count_by begins_character (slice_range text a b)
characters-between text a b ordered =
    ap (characters_before text) (omega (arith, ordered)) ∙ (ap (count_by begins_character) (take-add a (b - a) text) ∙ sum_by-append (λ x. cond (begins_character x) 1 0) (take a text) (take (b - a) (drop a text)))
