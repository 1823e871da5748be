-- The files so far were read.
use Rattle.std.proofs.Common.{◌≡◌, map, take}
use Rattle.daacgrep_command.specs.Asked.{HasRead}
use Rattle.daacgrep_command.proofs.patterns.add_files.Given as goal

abbrev pub invariant-loop-name : goal.invariant-loop-name
invariant-loop-name g l = record {
  same : g.F.FileSystem.sees l.files ≡ g.F.FileSystem.sees l.fn.files;
  read : HasRead (g.F.FileSystem.sees l.fn.files).given (map (λ n. n.now) (take l.name-index l.names)) l.fn.text.items l.text.items;
}
