-- The last digit of what is left stands in front of those that were written.
use Rattle.std.proofs.Common.{◌≡◌, ℕ, ◌+◌, ◌-◌, ◌^◌, ◌<◌, ◌≤◌, ◌%◌, ◌/◌, length, decimal, ap, ◌∙◌, arith, append_assoc, length-append}
use Rattle.std.proofs.lemmas.Fmt.{decimal_digit, decimal_step}
use Rattle.std.proofs.lemmas.List.{drop-set, length-set}
use Rattle.daacfind_command.proofs.run.render_number.Goals as goal

more : (n : ℕ) → 10 ≤ n → n < 2 ^ 64 → length (decimal n) ≡ length (decimal (n / 10)) + 1
more n lo hi = ap length (decimal_step n lo hi) ∙ length-append _ _

one : (n : ℕ) → n < 10 → length (decimal n) ≡ 1
one n h = ap length (decimal_digit n h)

pub overflow_sub-at-in-loop-left : goal.overflow_sub-at-in-loop-left
overflow_sub-at-in-loop-left c = omega (
  arith,
  more c.loop-left.left (omega arith) c.loop-left.auto.left-fits.fits,
  c.loop-left.invariant.room,
)

pub loop-left-preserved : goal.loop-left-preserved
loop-left-preserved c =
    let l = c.loop-left in
    let long = more l.left (omega arith) l.auto.left-fits.fits in
    let set = length-set l.line (l.at - 1) (48 + l.left % 10) in
    let e : l.at - 1 + 1 ≡ l.at = omega (arith, long, l.invariant.room) in record {
      room = omega (arith, long, l.invariant.room);
      within = set ∙ l.invariant.within;
      inside = omega (arith, set, l.invariant.inside);
      start = omega (arith, long, l.invariant.room, l.invariant.start);
      written = rw (drop-set l.line (l.at - 1) _ (omega (arith, long, l.invariant.room, l.invariant.inside)), e)
          (rw (decimal_step l.left (omega arith) l.auto.left-fits.fits, append_assoc) at l.invariant.written);
    }

pub overflow_sub-at-2 : goal.overflow_sub-at-2
overflow_sub-at-2 c = omega (arith, one c.loop-left.left (omega arith), c.loop-left.invariant.room)

pub returns-clause-start : goal.returns-clause-start
returns-clause-start c = let l = c.loop-left in omega (arith, one l.left (omega arith), l.invariant.room, l.invariant.start)

pub returns-clause-written : goal.returns-clause-written
returns-clause-written c =
    let l = c.loop-left in
    let short = one l.left (omega arith) in
    let e : l.at - 1 + 1 ≡ l.at = omega (arith, short, l.invariant.room) in
    rw (drop-set l.line (l.at - 1) _ (omega (arith, short, l.invariant.room, l.invariant.inside)), e)
    (rw (decimal_digit l.left (omega arith)) at l.invariant.written)
