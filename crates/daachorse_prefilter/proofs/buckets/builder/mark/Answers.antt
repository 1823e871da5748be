-- The entry of one slot has the bit 0, those of all third bytes, or the mask.
use Rattle.std.proofs.Common.{◌≡◌, ℕ, ◌+◌, ◌-◌, ◌*◌, ◌&&◌, Bool, get_or, sym, ap, ◌∙◌, arith}
use Rattle.std.specs.Prelude.{◌==◌, ◌||◌}
use Rattle.daachorse_model.specs.Filter.{is_clear}
use Rattle.daachorse_prefilter.specs.Buckets.{has_slot, slot, some_below}
use Rattle.daachorse_prefilter.proofs.BucketMarks.{any_slots, opens_any, opens_byte, opens_none, opens_three, three_slots, two_slots}
use Rattle.daachorse_prefilter.proofs.ClearBits.{is_clear_unset}
use Rattle.daachorse_prefilter.proofs.buckets.builder.mark.Goals as goal

pub returns-then-k-pattern-clause-opens : goal.returns-then-k-pattern-clause-opens
returns-then-k-pattern-clause-opens c = λ y i h.
    let p = c.args.pattern.now in let k = c.args.k in
    opens_three (is_clear (get_or c.args.entries.now y 0) i) (is_clear (get_or c.unset.new.entries y 0) i) (is_clear c.args.mask.now i) (i == 56 - 8 * k + c.args.bucket) (y == c.slot_of-slot.result) (has_slot p k y)
    (c.unset.ensures.clears y i h) (three_slots p k y (omega arith) ∙ ap (λ n. y == n) (sym c.slot_of-slot.ensures.is))

pub loop-byte-init : goal.loop-byte-init
loop-byte-init c = record {
  sized = c.requires.sized;
  opened = λ y i h. opens_none (is_clear (get_or c.args.entries.now y 0) i) (i == 56 - 8 * c.args.k + c.args.bucket) _;
}

pub loop-byte-preserved : goal.loop-byte-preserved
loop-byte-preserved c =
    let l = c.loop-byte in let p = c.args.pattern.now in let k = c.args.k in
    record {
      sized = c.unset-in-loop-byte.ensures.sized ∙ l.invariant.sized;
      opened = λ y i h.
          opens_byte (is_clear (get_or c.args.entries.now y 0) i) (is_clear (get_or l.entries y 0) i) (is_clear (get_or c.unset-in-loop-byte.new.entries y 0) i) (i == 56 - 8 * k + c.args.bucket)
          (λ b. y == slot (get_or p k 0) (get_or p (k + 1) 0) b) l.byte (l.invariant.opened y i h)
          (c.unset-in-loop-byte.ensures.clears y i h ∙ ap (λ n. is_clear (get_or l.entries y 0) i || ((i == 56 - 8 * k + c.args.bucket) && (y == n))) c.slot_of-slot-in-loop-byte.ensures.is);
    }

pub returns-after-loop-byte-clause-opens : goal.returns-after-loop-byte-clause-opens
returns-after-loop-byte-clause-opens c = λ y i h.
    let p = c.args.pattern.now in let k = c.args.k in let l = c.loop-byte in
    let third : ℕ → Bool = λ b. y == slot (get_or p k 0) (get_or p (k + 1) 0) b in
    let all : l.byte ≡ 256 = omega arith in
    opens_three (is_clear (get_or c.args.entries.now y 0) i) (is_clear (get_or l.entries y 0) i) (is_clear c.args.mask.now i) (i == 56 - 8 * k + c.args.bucket) (some_below third l.byte) (has_slot p k y)
    (l.invariant.opened y i h) (two_slots p k y (omega arith) ∙ ap (some_below third) (sym all))

pub returns-else-k-pattern-2-clause-opens : goal.returns-else-k-pattern-2-clause-opens
returns-else-k-pattern-2-clause-opens c = λ y i h.
    let bit : ℕ = 56 - 8 * c.args.k + c.args.bucket in
    opens_any (is_clear (get_or c.args.entries.now y 0) i) (is_clear c.args.mask.now i) (i == bit) (has_slot c.args.pattern.now c.args.k y) _
    (is_clear_unset c.args.mask.now bit i (omega arith) h) (any_slots c.args.pattern.now c.args.k y (omega arith))
