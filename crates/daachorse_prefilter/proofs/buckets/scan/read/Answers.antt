-- The entry of the place joins the state.
use Rattle.std.proofs.Common.{arith}
use Rattle.daachorse_prefilter.proofs.BucketScanLaws.{shows_next}
use Rattle.daachorse_prefilter.proofs.buckets.scan.read.Goals as goal

pub returns : goal.returns
returns c pos shows = shows_next c.args.entries.now c.args.haystack.now pos c.args.stride c.args.place c.args.state c.entry.result (omega (arith, c.requires.stride)) (omega (arith, c.ranges.state.fits)) c.entry.ensures shows
