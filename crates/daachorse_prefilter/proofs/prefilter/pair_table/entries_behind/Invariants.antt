-- The entries of the pairs that begin with the first bytes are there.
use Rattle.std.proofs.Common.{◌≡◌, ℕ, ◌+◌, ◌*◌, ◌<◌, length, get_or}
use Rattle.daachorse_prefilter.specs.PairTables.{transposed}
use Rattle.daachorse_prefilter.proofs.prefilter.pair_table.entries_behind.Given as goal

abbrev pub invariant-loop-first : goal.invariant-loop-first
invariant-loop-first l = record {
  size : length l.row ≡ 256;
  read : (k : ℕ) → k < l.first → get_or l.row k 0 ≡ get_or l.entries (transposed (l.byte * 256 + k)) 0;
}
