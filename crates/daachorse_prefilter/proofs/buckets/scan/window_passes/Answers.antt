-- Each offset more refuses some bits.
use Rattle.std.proofs.Common.{◌≡◌, ◌+◌, suc, drop, arith, ap, ◌∙◌}
use Rattle.daachorse_prefilter.proofs.BucketWindows.{open_none, open_more, open_so_far, window_is}
use Rattle.daachorse_prefilter.proofs.buckets.scan.window_passes.Goals as goal

pub loop-k-init : goal.loop-k-init
loop-k-init c b h = open_none c.args.entries.now (drop c.args.place c.args.haystack.now) b

pub loop-k-preserved : goal.loop-k-preserved
loop-k-preserved c b h =
    let next : suc c.loop-k.k ≡ c.loop-k.k + 1 = omega arith in
    open_more c.args.entries.now c.args.haystack.now c.args.place b c.loop-k.k c.loop-k.refused c.entry.result c.entry.ensures (c.loop-k.invariant b h)
    ∙ ap (λ n. open_so_far c.args.entries.now (drop c.args.place c.args.haystack.now) b n) next

pub returns : goal.returns
returns c = window_is c.args.entries.now (drop c.args.place c.args.haystack.now) c.loop-k.refused c.loop-k.k (omega arith) c.loop-k.invariant
