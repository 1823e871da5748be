-- What was passed waits on the path for the depth of the element above, or is known, and there is room for all that was not passed.
use Rattle.std.proofs.Common.{◌≡◌, ◌≢◌, ◌⊎◌, ◌+◌, ◌<◌, ◌≤◌, ℕ, length, reverse}
use Rattle.std.specs.Prelude.{slice_index, vec_capacity}
use Rattle.daachorse_array.specs.Climbs.{AreKnown}
use Rattle.daachorse_array.proofs.ClimbLaws.{IsClimb, num_unknown}
use Rattle.daachorse_array.proofs.climbs.climb.Given as goal

abbrev pub invariant-up : goal.invariant-up
invariant-up g l =
    let child = (g.E.Array.sees l.edges).child in
    let n = (g.E.Array.sees l.edges).count in
    let m = (g.E.Array.sees l.edges).units in
    record {
      known : AreKnown child n m (reverse l.path.items) l.depths.items;
      climb : IsClimb child n m (reverse l.path.items) l.above;
      inside : l.above < n;
      room : length l.path.items + num_unknown l.depths.items ≤ n;
      same : vec_capacity l.path ≡ vec_capacity l.fn.path;
      kept : (i : ℕ) → slice_index l.fn.depths.items i ≢ 0 → slice_index l.depths.items i ≢ 0;
      passed : (l.above ≡ l.fn.element) ⊎ (slice_index l.depths.items l.fn.element ≢ 0);
    }

abbrev pub decreases-up : goal.decreases-up
decreases-up g l = num_unknown l.depths.items
