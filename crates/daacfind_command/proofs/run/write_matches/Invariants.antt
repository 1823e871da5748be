-- The lines of the matches so far went out, and the sink did not fail.
use Rattle.std.proofs.Common.{◌≡◌}
use Rattle.std.specs.Io.KnownBytes.{Appends}
use Rattle.daachorse_model.specs.Program.{match_text}
use Rattle.daacfind_command.proofs.run.write_matches.Given as goal

abbrev pub invariant-loop-found : goal.invariant-loop-found
invariant-loop-found g l = record {
  written : Appends (g.S.Sink.taken l.fn.out) (g.S.Sink.taken l.out) (match_text l.yielded);
  unfailed : g.S.Sink.failures l.out ≡ g.S.Sink.failures l.fn.out;
}
