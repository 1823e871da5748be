-- The mark comes after the text.
use Rattle.std.proofs.Common.{[], ◌∷◌}
use Rattle.std.proofs.lemmas.Result.{err_from_is_err_and}
use Rattle.daacgrep_command.proofs.Writing.{then_more, then_none}
use Rattle.daacgrep_command.proofs.printing.write_marked.Goals as goal

pub returns-in_err-write : goal.returns-in_err-write
returns-in_err-write g c =
    let p = err_from_is_err_and c.from_residual.result c.from_residual.ensures.1 in
    rw p.1 (then_none _ _ c.args.text.now (c.args.mark ∷ []) _ c.in_err-write.ensures)

pub returns : goal.returns
returns g c = then_more _ _ _ c.args.text.now (c.args.mark ∷ []) _ _ c.in_ok-write.ensures c.write-2.ensures
