-- The reads so far were interrupted, and took nothing.
use Rattle.std.specs.Io.KnownBytes.{Keeps}
use Rattle.daacgrep_command.proofs.program.read_of.Given as goal

abbrev pub invariant-loop-try : goal.invariant-loop-try
invariant-loop-try g l = Keeps (g.R.Read.remaining l.fn.from) (g.R.Read.remaining l.from)
