-- An array is sound just where its ranges hold, the parents of its outputs fall and it is a right machine of so many texts, and these are asked in turn.
use Rattle.std.proofs.Common.{refl}
use Rattle.std.proofs.lemmas.Bool.{false≢true}
use Rattle.daachorse_checker.proofs.checker.is_sound.Goals as goal

pub returns-then-not-ranges_hold-clause-ok : goal.returns-then-not-ranges_hold-clause-ok
returns-then-not-ranges_hold-clause-ok g c = (λ e. absurd (false≢true e), λ sound. c.if-not-ranges_hold.ensures.1 sound.ranges)

pub returns-then-not-parents_fall-clause-ok : goal.returns-then-not-parents_fall-clause-ok
returns-then-not-parents_fall-clause-ok g c = (λ e. absurd (false≢true e), λ sound. c.if-not-parents_fall.ensures.1 sound.parents_fall)

pub returns-clause-ok : goal.returns-clause-ok
returns-clause-ok g c = (
  λ e. record {
    ranges = c.if-not-ranges_hold.ensures.0 refl;
    parents_fall = c.if-not-parents_fall.ensures.0 refl;
    right = (c.in_ok-right.ensures.ok.0 e).0;
    counted = (c.in_ok-right.ensures.ok.0 e).1;
  },
  λ sound. c.in_ok-right.ensures.ok.1 (sound.right, sound.counted),
)
