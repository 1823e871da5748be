-- No boundary before the place from which the search goes on passes.
use Rattle.std.proofs.Common.{◌≤◌, ◌-◌, ◌&&◌, length}
use Rattle.std.specs.Prelude.{option_map}
use Rattle.daachorse_prefilter.specs.Buckets.{may_begin}
use Rattle.daachorse_prefilter.specs.Filters.{admits}
use Rattle.daachorse_prefilter.proofs.Boundaries.{NoBoundaryPasses}
use Rattle.daachorse_prefilter.proofs.places.find_boundary.Given as goal

abbrev pub invariant-places : goal.invariant-places
invariant-places g l = record {
  low : l.pos ≤ l.from;
  none : NoBoundaryPasses (λ w. may_begin (option_map (λ b. b.now) l.buckets) w && admits l.filter w) (g.R.ByteReading.read l.haystack) l.pos l.from;
}

abbrev pub decreases-places : goal.decreases-places
decreases-places g l = length l.haystack - l.from
