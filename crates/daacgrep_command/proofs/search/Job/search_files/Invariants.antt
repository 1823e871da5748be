-- The files so far were searched.
use Rattle.std.proofs.Common.{Ok, map, take}
use Rattle.daacfind_command.specs.declared.sink.SinkError.{SinkError}
use Rattle.daacgrep_command.specs.Asked.{AreSearched}
use Rattle.daacgrep_command.specs.FileSystems.{IsTrouble, OnlyReads}
use Rattle.daacgrep_command.specs.Jobs.{wanted_of}
use Rattle.daacgrep_command.proofs.search.Job.search_files.Given as goal

abbrev pub invariant-loop-name : goal.invariant-loop-name
invariant-loop-name g l = record {
  reads : OnlyReads (g.F.FileSystem.sees l.fn.files) (g.F.FileSystem.sees l.files);
  trouble : IsTrouble l.outcome.trouble (g.F.FileSystem.sees l.fn.files).failures (g.F.FileSystem.sees l.files).failures;
  searched : AreSearched (wanted_of l.fn.self) (g.F.FileSystem.sees l.fn.files).given (map (λ n. n.now) (take l.name-index l.names))
      {E = SinkError} (g.S.Output.sees l.fn.out) (g.S.Output.sees l.out) (g.M.Messages.sent l.fn.err) (g.M.Messages.sent l.err)
      (Ok l.outcome);
}
