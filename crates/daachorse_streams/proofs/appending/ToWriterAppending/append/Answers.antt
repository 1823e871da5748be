-- What the writer refused of the piece is left.
use Rattle.std.proofs.Common.{subst}
use Rattle.std.proofs.lemmas.Result.{on_err_weaker}
use Rattle.daachorse_streams.specs.Replaced.{AppendsBeginning}
use Rattle.daachorse_streams.proofs.appending.ToWriterAppending.append.Goals as goal

pub returns-clause-beginning : goal.returns-clause-beginning
returns-clause-beginning g c =
    on_err_weaker c.write_whole.result (λ left. subst (AppendsBeginning _ _) c.as_bytes.ensures (left.0, left.1, left.2, left.4))
    c.write_whole.ensures.part
