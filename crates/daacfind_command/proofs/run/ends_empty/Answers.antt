-- The last piece is empty where its length is 0.
use Rattle.daacfind_command.proofs.Pieces.{ends_in_empty}
use Rattle.daacfind_command.proofs.run.ends_empty.Goals as goal

pub returns-in-Some : goal.returns-in-Some
returns-in-Some c = ends_in_empty c.args.pieces.now c.in-Some.last.now _ c.is_empty.result c.in-Some.ensures.value c.is_empty.ensures
