-- The pattern is marked in the entries and the mask.
use Rattle.std.proofs.Common.{◌≡◌, length, drop, map, sym, ap, ◌∙◌, arith}
use Rattle.std.specs.Prelude.{◌||◌, bit_and}
use Rattle.std.proofs.lemmas.List.{take_at}
use Rattle.daachorse_prefilter.specs.Buckets.{is_clear_at, is_open, opens}
use Rattle.daachorse_prefilter.proofs.BucketMarks.{closed_at}
use Rattle.daachorse_prefilter.proofs.buckets.builder.BucketsBuilder.add.Goals as goal

pub returns : goal.returns
returns g c = λ y i h within.
    let new = c.mark_offsets.new.entries in let old = c.self.inside.entries.items in let mask = c.self.inside.mask in
    let value = c.deref_mut.ensures.value in
    let sized : length new ≡ c.self.inside.entries.len = omega (
      arith,
      c.mark_offsets.ensures.sized,
      ap length value,
      c.deref_mut.ensures.len,
      c.self.invariant,
    ) in
    ap (λ xs. is_clear_at (map (λ e. bit_and e c.mark_offsets.new.mask) xs) y i)
    (take_at new (drop (length new) old) c.self.inside.entries.len sized)
    ∙ closed_at new c.mark_offsets.new.mask y i (omega (arith, h, c.mark_offsets.ensures.sized)) ∙ c.mark_offsets.ensures.opens y i within
    ∙ ap (λ b. b || opens c.args.pattern.now c.args.bucket 8 y i)
    (ap (λ xs. is_open xs mask y i) value ∙ sym (closed_at old mask y i (omega (arith, h, c.self.invariant)))
    ∙ ap (λ table. is_clear_at table y i) c.self.view_is)
