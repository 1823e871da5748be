-- The sink took the bytes up to `rest`, and did not fail.
use Rattle.std.proofs.Common.{◌≡◌, List, ℕ, ◌++◌, length}
use Rattle.std.specs.Io.KnownBytes.{Appends}
use Rattle.daacfind_command.proofs.sink.write_whole.Given as goal

abbrev pub invariant-loop-rest : goal.invariant-loop-rest
invariant-loop-rest g l = record {
  sent : (part : List ℕ) × (l.fn.bytes ≡ part ++ l.rest) × Appends (g.S.Sink.taken l.fn.out) (g.S.Sink.taken l.out) part;
  unfailed : g.S.Sink.failures l.out ≡ g.S.Sink.failures l.fn.out;
}

abbrev pub decreases-loop-rest : goal.decreases-loop-rest
decreases-loop-rest g l = length l.rest
