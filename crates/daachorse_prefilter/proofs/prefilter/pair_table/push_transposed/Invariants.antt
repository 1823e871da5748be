-- The first entries in the other order are there.
use Rattle.std.proofs.Common.{◌≡◌, ◌*◌, ◌++◌}
use Rattle.daachorse_prefilter.specs.PairTables.{first_transposed}
use Rattle.daachorse_prefilter.proofs.prefilter.pair_table.push_transposed.Given as goal

abbrev pub invariant-loop-byte : goal.invariant-loop-byte
invariant-loop-byte g l = l.dst.items ≡ l.initial.dst.items ++ first_transposed l.entries (l.byte * 256)
