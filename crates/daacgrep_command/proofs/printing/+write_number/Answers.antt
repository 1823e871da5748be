-- The last digit comes after the others.
use Rattle.std.proofs.lemmas.Result.{err_from_is_err_and}
use Rattle.std.proofs.lemmas.Fmt.{decimal_digit, decimal_step}
use Rattle.daacgrep_command.proofs.Writing.{then_more, then_none}
use Rattle.daacgrep_command.proofs.printing.+write_number.Goals as goal

pub returns-then-number-lt10 : goal.returns-then-number-lt10
returns-then-number-lt10 g t c = rw (decimal_digit c.args.number c.if-number-lt10.true) c.write_digit.ensures

pub returns-in_err-write_number : goal.returns-in_err-write_number
returns-in_err-write_number g t c =
    let p = err_from_is_err_and c.from_residual.result c.from_residual.ensures.1 in
    let e = decimal_step c.args.number c.if-number-lt10.false c.ranges.number.fits in
    rw (p.1, e) (then_none _ _ _ _ _ c.in_err-write_number.ensures)

pub returns : goal.returns
returns g t c =
    let e = decimal_step c.args.number c.if-number-lt10.false c.ranges.number.fits in
    rw e (then_more _ _ _ _ _ _ _ c.in_ok-write_number.ensures c.write_digit-2.ensures)
