-- Each offset more opens what the pattern has there.
use Rattle.std.proofs.Common.{arith}
use Rattle.daachorse_prefilter.specs.Buckets.{is_open}
use Rattle.daachorse_prefilter.proofs.BucketMarks.{opens_all, opens_first, opens_next}
use Rattle.daachorse_prefilter.proofs.buckets.builder.mark_offsets.Goals as goal

pub loop-k-init : goal.loop-k-init
loop-k-init c = record {
  sized = c.requires.sized;
  opened = λ y i h.
      opens_first c.args.pattern.now c.args.bucket y i (is_open c.args.entries.now c.args.mask.now y i);
}

pub loop-k-preserved : goal.loop-k-preserved
loop-k-preserved c =
    let l = c.loop-k in
    record {
      sized = c.mark.ensures.sized;
      opened = λ y i h. opens_next c.args.pattern.now c.args.bucket l.k y i (is_open c.args.entries.now c.args.mask.now y i)
          (is_open l.entries l.mask y i) _ (l.invariant.opened y i h) (c.mark.ensures.opens y i h);
    }

pub returns-clause-opens : goal.returns-clause-opens
returns-clause-opens c = λ y i h. opens_all c.args.pattern.now c.args.bucket c.loop-k.k y i
    (is_open c.args.entries.now c.args.mask.now y i) _ (omega arith) (c.loop-k.invariant.opened y i h)
