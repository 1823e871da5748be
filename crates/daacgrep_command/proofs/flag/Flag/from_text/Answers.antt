-- No flag is written in so many letters.
use Rattle.std.proofs.Common.{length, refl, sym, arith}
use Rattle.daacgrep_command.proofs.FlagTexts.{no_flag}
use Rattle.daacgrep_command.proofs.flag.Flag.from_text.Goals as goal

pub returns-in_default-41 : goal.returns-in_default-41
returns-in_default-41 c =
    let text = c.args.text.now in
    sym (no_flag (length text) (λ e. omega (arith, e, c.in_default.len_at_least, c.in_default.len_below)) (λ e. omega (arith, e, c.in_default.len_at_least, c.in_default.len_below)) (λ e. omega (arith, e, c.in_default.len_at_least, c.in_default.len_below)) (λ e. omega (arith, e, c.in_default.len_at_least, c.in_default.len_below)) (λ e. omega (arith, e, c.in_default.len_at_least, c.in_default.len_below)) (λ e. omega (arith, e, c.in_default.len_at_least, c.in_default.len_below)) (λ e. omega (arith, e, c.in_default.len_at_least, c.in_default.len_below)) text refl)

pub returns-in_default-53 : goal.returns-in_default-53
returns-in_default-53 c =
    let text = c.args.text.now in
    sym (no_flag (length text) (λ e. omega (arith, e, c.in_default.len_at_least, c.in_default.len_below)) (λ e. omega (arith, e, c.in_default.len_at_least, c.in_default.len_below)) (λ e. omega (arith, e, c.in_default.len_at_least, c.in_default.len_below)) (λ e. omega (arith, e, c.in_default.len_at_least, c.in_default.len_below)) (λ e. omega (arith, e, c.in_default.len_at_least, c.in_default.len_below)) (λ e. omega (arith, e, c.in_default.len_at_least, c.in_default.len_below)) (λ e. omega (arith, e, c.in_default.len_at_least, c.in_default.len_below)) text refl)

pub returns-in_default-67 : goal.returns-in_default-67
returns-in_default-67 c =
    let text = c.args.text.now in
    sym (no_flag (length text) (λ e. omega (arith, e, c.in_default.len_at_least)) (λ e. omega (arith, e, c.in_default.len_at_least)) (λ e. omega (arith, e, c.in_default.len_at_least)) (λ e. omega (arith, e, c.in_default.len_at_least)) (λ e. omega (arith, e, c.in_default.len_at_least)) (λ e. omega (arith, e, c.in_default.len_at_least)) (λ e. omega (arith, e, c.in_default.len_at_least)) text refl)
