-- The match is not empty.
use Rattle.std.proofs.Common.{◌≡◌, ◌==◌, false, arith}
use Rattle.std.proofs.lemmas.Bool.Decides.{nat_tests}
use Rattle.daacgrep_command.proofs.Writing.{part_written}
use Rattle.daacgrep_command.proofs.search.Job.write_match.Goals as goal

pub returns : goal.returns
returns g c =
    let apart : (c.args.found.start == c.args.found.end) ≡ false = grind (arith, nat_tests, c.if-found.false) in
    part_written _ _ _ c.args.found.start c.args.found.end _ apart c.write_part.ensures
