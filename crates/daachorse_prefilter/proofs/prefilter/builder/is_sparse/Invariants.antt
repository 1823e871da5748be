-- The product over the offsets so far, which 16 bits for each offset hold, where the counts are those of a table.
use Rattle.std.proofs.Common.{◌≡◌, ◌*◌, ◌^◌, ◌≤◌, ℕ, List, length}
use Rattle.daachorse_prefilter.specs.Building.{ArePairCounts, count_ways}
use Rattle.daachorse_prefilter.proofs.prefilter.builder.is_sparse.Given as goal

abbrev pub invariant-loop-offset : goal.invariant-loop-offset
invariant-loop-offset l = record {
  product : (entries : List ℕ) → length entries ≡ 65536 → ArePairCounts entries l.counts → l.ways ≡ count_ways entries l.offset;
  few : (entries : List ℕ) → length entries ≡ 65536 → ArePairCounts entries l.counts → l.ways ≤ 2 ^ (16 * l.offset);
}
