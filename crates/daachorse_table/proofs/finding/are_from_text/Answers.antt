-- The source is the bytes of the text.
use Rattle.std.proofs.Common.{arith}
use Rattle.daachorse_table.proofs.FromText.{from_text}
use Rattle.daachorse_table.proofs.finding.are_from_text.Goals as goal

pub are-requires-clause-can : goal.are-requires-clause-can
are-requires-clause-can g c =
    from_text c.args.search.folds c.args.search.source c.args.text.now c.args.search.read c.requires.source c.utf8.text (omega arith) c.requires.read
