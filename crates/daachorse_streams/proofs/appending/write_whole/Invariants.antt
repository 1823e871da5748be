-- The writer took the bytes up to `rest`.
use Rattle.std.proofs.Common.{◌≡◌, List, ℕ, ◌++◌, length}
use Rattle.std.specs.Io.KnownBytes.{Appends}
use Rattle.daachorse_streams.proofs.appending.write_whole.Given as goal

abbrev pub invariant-loop-rest : goal.invariant-loop-rest
invariant-loop-rest g l = record {
  sent : (part : List ℕ) × (l.fn.bytes ≡ part ++ l.rest) × Appends (g.W.Write.contents l.fn.out) (g.W.Write.contents l.out) part;
}

abbrev pub decreases-loop-rest : goal.decreases-loop-rest
decreases-loop-rest g l = length l.rest
