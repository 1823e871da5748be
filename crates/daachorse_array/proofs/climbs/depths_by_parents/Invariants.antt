-- Each depth is known or not asked for yet, and those of the elements that were passed are known; the path is empty.
use Rattle.std.proofs.Common.{◌≡◌, ◌≢◌, ◌<◌, ◌≤◌, ℕ, []}
use Rattle.std.specs.Prelude.{slice_index, vec_capacity}
use Rattle.daachorse_array.specs.Climbs.{AreKnown}
use Rattle.daachorse_array.proofs.climbs.depths_by_parents.Given as goal

abbrev pub invariant-loop-element : goal.invariant-loop-element
invariant-loop-element g l = record {
  known : AreKnown (g.E.Array.sees l.edges).child (g.E.Array.sees l.edges).count (g.E.Array.sees l.edges).units [] l.depths.items;
  passed : (i : ℕ) → 0 < i → i < l.element → slice_index l.depths.items i ≢ 0;
  empty : l.path.items ≡ [];
  room : (g.E.Array.sees l.edges).count ≤ vec_capacity l.path;
}
