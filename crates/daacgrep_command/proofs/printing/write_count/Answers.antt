-- The number comes after the name.
use Rattle.std.proofs.Common.{[], ◌∷◌, ◌++◌, decimal, sym}
use Rattle.std.proofs.lemmas.Result.{err_from_is_err_and}
use Rattle.daacgrep_command.specs.Fields.{name_field}
use Rattle.daacgrep_command.proofs.Writing.{then_more, then_none}
use Rattle.daacgrep_command.proofs.printing.write_count.Goals as goal

pub returns-in_err-write_name : goal.returns-in_err-write_name
returns-in_err-write_name g c =
    let p = err_from_is_err_and c.from_residual.result c.from_residual.ensures.1 in
    rw (p.1, sym c.as_bytes.ensures.value) (then_none _ _ (name_field c.args.is_named c.as_bytes.result.now)
    (decimal c.args.count ++ 10 ∷ []) _ c.in_err-write_name.ensures)

pub returns : goal.returns
returns g c = rw (sym c.as_bytes.ensures.value) (then_more _ _ _ (name_field c.args.is_named c.as_bytes.result.now)
    (decimal c.args.count ++ 10 ∷ []) _ _ c.in_ok-write_name.ensures c.write_marked_number.ensures)
