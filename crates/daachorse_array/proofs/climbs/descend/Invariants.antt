-- The elements that are left on the path will be given their depths.
use Rattle.std.proofs.Common.{◌≡◌, ◌+◌, ◌<◌, ◌^◌, length, reverse}
use Rattle.std.specs.Prelude.{vec_capacity}
use Rattle.std.specs.List.{AllByRecursion}
use Rattle.daachorse_array.specs.Climbs.{depths_along}
use Rattle.daachorse_array.proofs.climbs.descend.Given as goal

abbrev pub invariant-down : goal.invariant-down
invariant-down g l = record {
  left : depths_along l.deepest (reverse l.path.items) l.depths.items ≡ depths_along l.fn.depth (reverse l.fn.path.items) l.fn.depths.items;
  inside : AllByRecursion (λ i. i < length l.depths.items) (reverse l.path.items);
  few : l.deepest + length l.path.items < 2 ^ 32;
  same : vec_capacity l.path ≡ vec_capacity l.fn.path;
}

abbrev pub decreases-down : goal.decreases-down
decreases-down g l = length l.path.items
