-- A scan of the window alone finds it at its first place or not at all.
use Rattle.std.proofs.Common.{arith, ap}
use Rattle.daachorse_prefilter.specs.Filters.{Filter}
use Rattle.daachorse_prefilter.proofs.Candidates.{window_at}
use Rattle.daachorse_prefilter.proofs.prefilter.Prefilter.admits_at.Goals as goal

pub returns : goal.returns
returns g c =
    let f : Filter = c.args.self.now in
    window_at g.R.ByteReading.as_read g.R.ByteReading.read g.met.R.ByteReading.reads_each f c.args.haystack.now c.args.place _ c.first_place.result
    (rw (← c.self.view_is) c.self.invariant) (omega (arith, ap (λ (x : Filter). x.window) c.self.view_is)) c.requires c.first_place.ensures
