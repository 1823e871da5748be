-- The mark comes after the number.
use Rattle.std.proofs.Common.{[], ◌∷◌, decimal}
use Rattle.std.proofs.lemmas.Result.{err_from_is_err_and}
use Rattle.daacgrep_command.proofs.Writing.{then_more, then_none}
use Rattle.daacgrep_command.proofs.printing.write_marked_number.Goals as goal

pub returns-in_err-write_number : goal.returns-in_err-write_number
returns-in_err-write_number g c =
    let p = err_from_is_err_and c.from_residual.result c.from_residual.ensures.1 in
    rw p.1 (then_none _ _ (decimal c.args.number) (c.args.mark ∷ []) _ c.in_err-write_number.ensures)

pub returns : goal.returns
returns g c = then_more _ _ _ (decimal c.args.number) (c.args.mark ∷ []) _ _ c.in_ok-write_number.ensures c.write.ensures
